use Rattle.std.proofs.Common.{◌≡◌, ◌++◌, drop, map}
use Rattle.change_file.proofs.Picked.{method_before}
use Rattle.change_file.proofs.differences.method_differences.Given as goal

abbrev pub invariant-loop-method : goal.invariant-loop-method
invariant-loop-method l = l.places.items ++ map method_before (drop l.method-index l.method-items) ≡ map method_before l.method-items
