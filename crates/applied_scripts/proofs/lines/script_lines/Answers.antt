use Rattle.std.proofs.Common.{sym, subst}
use Rattle.rb_base.specs.Names.{HasNoTwice}
use Rattle.live_slots.specs.Live.{AllLive}
use Rattle.applied_scripts.proofs.NewNames.{named-closed, named-image, named-orderly}
use Rattle.applied_scripts.proofs.lines.script_lines.Goals as goal

pub returns-clause-image : goal.returns-clause-image
returns-clause-image c =
    named-image c.args.image.now c.lines_with_names-lines.new.image c.requires.orderly c.requires.live c.lines_with_names-lines.ensures.rest c.lines_with_names-lines.ensures.grows
    (subst HasNoTwice c.names.ensures c.len-count.ensures.distinct)

pub returns-clause-orderly : goal.returns-clause-orderly
returns-clause-orderly c =
    named-orderly c.args.image.now c.lines_with_names-lines.new.image c.requires.orderly c.requires.live c.lines_with_names-lines.ensures.rest c.lines_with_names-lines.ensures.grows
    (subst HasNoTwice c.names.ensures c.len-count.ensures.distinct)

pub returns-clause-live : goal.returns-clause-live
returns-clause-live c = subst AllLive (sym c.lines_with_names-lines.ensures.rest) (record { classes = c.requires.live.classes; methods = c.requires.live.methods })

pub returns-clause-closed : goal.returns-clause-closed
returns-clause-closed c =
    named-closed c.args.image.now c.lines_with_names-lines.new.image c.requires.orderly c.requires.live c.lines_with_names-lines.ensures.rest c.lines_with_names-lines.ensures.grows
    (subst HasNoTwice c.names.ensures c.len-count.ensures.distinct)
