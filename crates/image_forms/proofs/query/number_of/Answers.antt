use Rattle.std.proofs.Common.{subst}
use Rattle.rb_base.specs.Names.{HasNoTwice}
use Rattle.image_doits.proofs.Grown.{same_image, still_orderly}
use Rattle.image_forms.proofs.query.number_of.Goals as goal

pub returns-clause-image : goal.returns-clause-image
returns-clause-image c = same_image c.args.image.now c.intern-number.new.image c.requires c.intern-number.ensures.rest c.intern-number.ensures.grows

pub returns-clause-orderly : goal.returns-clause-orderly
returns-clause-orderly c =
    still_orderly c.args.image.now c.intern-number.new.image c.requires c.intern-number.ensures.rest c.intern-number.ensures.grows
    (subst HasNoTwice c.names.ensures c.len-count.ensures.distinct)
