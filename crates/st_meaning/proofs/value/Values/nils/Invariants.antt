use Rattle.std.proofs.Common.{◌≡◌, ◌-◌, ◌≤◌, length, replicate}
use Rattle.run_model.specs.Values.{nil_value}
use Rattle.st_meaning.proofs.value.Values.nils.Given as goal

abbrev pub invariant-loop-items : goal.invariant-loop-items
invariant-loop-items l = (l.items.items ≡ replicate (length l.items.items) nil_value) × (length l.items.items ≤ l.count)

abbrev pub decreases-loop-items : goal.decreases-loop-items
decreases-loop-items l = l.count - length l.items.items
