use Rattle.std.proofs.Common.{◌≡◌, ◌++◌, ◌≤◌, drop, length}
use Rattle.rb_base.specs.Doubling.{doubled}
use Rattle.st_formatter.proofs.backward.Backward.put_doubled.Given as goal

abbrev pub invariant-loop-at : goal.invariant-loop-at
invariant-loop-at l = (l.at ≤ length l.piece) × (l.self ≡ doubled 39 (drop l.at l.piece) ++ l.initial.self)

abbrev pub decreases-loop-at : goal.decreases-loop-at
decreases-loop-at l = l.at
