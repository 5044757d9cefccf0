use Rattle.std.proofs.Common.{◌≡◌}
use Rattle.std.specs.Option.{option_and_then}
use Rattle.image_model.specs.Upwards.{upwards, first_given}
use Rattle.st_program.specs.Slots.{class_slot}
use Rattle.st_program.specs.Definers.{defined_at, next_above, definer_from}
use Rattle.st_program.proofs.program.Program.definer.Given as goal

abbrev pub invariant-loop-left : goal.invariant-loop-left
invariant-loop-left l = first_given (defined_at l.self l.kind l.text) (upwards (next_above l.self) l.left l.at) ≡ definer_from l.self l.kind l.text (option_and_then (class_slot l.self) l.context.home.class)

abbrev pub decreases-loop-left : goal.decreases-loop-left
decreases-loop-left l = l.left
