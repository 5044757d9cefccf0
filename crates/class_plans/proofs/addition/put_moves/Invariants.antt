use Rattle.std.proofs.Common.{◌≡◌, ◌++◌, take}
use Rattle.std.specs.List.{filter_map}
use Rattle.class_plans.specs.Added.{moved_under}
use Rattle.class_plans.proofs.addition.put_moves.Given as goal

abbrev pub invariant-loop-id : goal.invariant-loop-id
invariant-loop-id l = l.changes ≡ l.fn.changes ++ filter_map (moved_under l.image l.names l.superclass) (take l.id-index l.id-items)
