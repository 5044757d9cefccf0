use Rattle.std.proofs.Common.{sym, subst}
use Rattle.class_table.specs.Valid.{IsOrderly}
use Rattle.live_slots.specs.Live.{AllLive}
use Rattle.class_table.proofs.KeptLemmas.{doit-added}
use Rattle.image_doits.proofs.added.put.Goals.{in-Err, in-Ok}
use Rattle.image_doits.proofs.added.put.Goals as goal

pub returns-clause-orderly : goal.returns-clause-orderly
returns-clause-orderly c = elim c.match-add_doit.branch [
  | in-Err w ↦ subst IsOrderly (sym w.in-Err.ensures.err) c.requires.orderly
  | in-Ok w ↦ subst IsOrderly (sym w.in-Ok.ensures.ok) (doit-added c.args.image.now c.requires.orderly c.args.doit c.requires.known)
]

pub returns-clause-live : goal.returns-clause-live
returns-clause-live c = elim c.match-add_doit.branch [
  | in-Err w ↦ λ live. subst AllLive (sym w.in-Err.ensures.err) live
  | in-Ok w ↦ λ live. subst AllLive (sym w.in-Ok.ensures.ok) (record { classes = live.classes; methods = live.methods })
]
