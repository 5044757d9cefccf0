use Rattle.std.proofs.Common.{◌≡◌, ◌++◌, drop, map}
use Rattle.change_file.proofs.Picked.{class_before}
use Rattle.change_file.proofs.differences.class_differences.Given as goal

abbrev pub invariant-loop-class : goal.invariant-loop-class
invariant-loop-class l = l.places.items ++ map class_before (drop l.class-index l.class-items) ≡ map class_before l.class-items
