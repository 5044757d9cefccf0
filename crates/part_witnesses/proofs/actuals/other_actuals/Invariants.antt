use Rattle.std.proofs.Common.{◌≡◌, ◌++◌, drop}
use Rattle.std.specs.List.{enumerate_from, flat_map}
use Rattle.class_table.specs.View.{number_image}
use Rattle.commands.specs.Views.{asked_by}
use Rattle.inlined_code.specs.Sending.{send_of}
use Rattle.refusal_witnesses.specs.InlineWitnesses.{other_actual}
use Rattle.witness_lists.specs.Views.{shown}
use Rattle.part_witnesses.specs.Held.{held_as}
use Rattle.part_witnesses.proofs.actuals.other_actuals.Given as goal

abbrev pub invariant-loop-number : goal.invariant-loop-number
invariant-loop-number l =
    shown l.image l.found.items
    ++ flat_map (other_actual (asked_by l.image.names) (number_image l.image) (held_as l.image.classes l.sending.method.now) (send_of l.sending.call.sent) (held_as l.image.classes l.sending.target.now)) (enumerate_from l.number (drop l.number l.formals))
    ≡ shown l.image l.initial.found.items
    ++ flat_map (other_actual (asked_by l.image.names) (number_image l.image) (held_as l.image.classes l.sending.method.now) (send_of l.sending.call.sent) (held_as l.image.classes l.sending.target.now)) (enumerate_from 0 l.formals)
