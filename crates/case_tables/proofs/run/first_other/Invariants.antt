-- The bytes that are passed are the same.
use Rattle.std.proofs.Common.{◌≡◌, ◌-◌, length, take}
use Rattle.case_tables.proofs.run.first_other.Given as goal

abbrev pub invariant-loop-place : goal.invariant-loop-place
invariant-loop-place l = take l.place l.given ≡ take l.place l.wanted

abbrev pub decreases-loop-place : goal.decreases-loop-place
decreases-loop-place l = length l.given - l.place
