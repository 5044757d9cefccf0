use Rattle.std.proofs.Common.{subst}
use Rattle.rb_base.specs.Names.{HasNoTwice}
use Rattle.image_doits.proofs.Grown.{same_image, still_orderly}
use Rattle.image_forms.proofs.searching.pattern_in.Goals as goal

pub returns-clause-image : goal.returns-clause-image
returns-clause-image c = same_image c.args.image.now c.parse_in-pattern.new.image c.requires c.parse_in-pattern.ensures.rest c.parse_in-pattern.ensures.grows

pub returns-clause-orderly : goal.returns-clause-orderly
returns-clause-orderly c =
    still_orderly c.args.image.now c.parse_in-pattern.new.image c.requires c.parse_in-pattern.ensures.rest c.parse_in-pattern.ensures.grows
    (subst HasNoTwice c.names.ensures c.len-count.ensures.distinct)
