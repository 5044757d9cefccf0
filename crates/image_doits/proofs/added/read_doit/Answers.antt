use Rattle.std.proofs.Common.{subst}
use Rattle.rb_base.specs.Names.{HasNoTwice}
use Rattle.image_doits.proofs.Grown.{same_image, still_orderly, still_live}
use Rattle.image_doits.proofs.added.read_doit.Goals as goal

pub returns-clause-image : goal.returns-clause-image
returns-clause-image c = same_image c.args.image.now c.parse_in-body.new.image c.requires c.parse_in-body.ensures.rest c.parse_in-body.ensures.grows

pub returns-clause-orderly : goal.returns-clause-orderly
returns-clause-orderly c =
    still_orderly c.args.image.now c.parse_in-body.new.image c.requires c.parse_in-body.ensures.rest c.parse_in-body.ensures.grows
    (subst HasNoTwice c.names.ensures c.len.ensures.distinct)

pub returns-clause-live : goal.returns-clause-live
returns-clause-live c = still_live c.args.image.now c.parse_in-body.new.image c.parse_in-body.ensures.rest
