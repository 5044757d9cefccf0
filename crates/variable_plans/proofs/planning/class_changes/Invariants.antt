use Rattle.std.proofs.Common.{◌≡◌, take}
use Rattle.variable_plans.specs.Written.{classes_written}
use Rattle.variable_plans.specs.Records.{record_given}
use Rattle.variable_plans.proofs.planning.class_changes.Given as goal

abbrev pub invariant-loop-id : goal.invariant-loop-id
invariant-loop-id l = l.changes ≡ classes_written (record_given l.image l.route) (take l.id-index l.id-items)
