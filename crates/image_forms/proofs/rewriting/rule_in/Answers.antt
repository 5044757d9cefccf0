use Rattle.std.proofs.Common.{subst}
use Rattle.rb_base.specs.Names.{HasNoTwice}
use Rattle.image_doits.proofs.Grown.{same_image, still_orderly}
use Rattle.image_forms.proofs.rewriting.rule_in.Goals as goal

pub returns-clause-image : goal.returns-clause-image
returns-clause-image c = same_image c.args.image.now c.parse_in-rule.new.image c.requires c.parse_in-rule.ensures.rest c.parse_in-rule.ensures.grows

pub returns-clause-orderly : goal.returns-clause-orderly
returns-clause-orderly c =
    still_orderly c.args.image.now c.parse_in-rule.new.image c.requires c.parse_in-rule.ensures.rest c.parse_in-rule.ensures.grows
    (subst HasNoTwice c.names.ensures c.len-count.ensures.distinct)
