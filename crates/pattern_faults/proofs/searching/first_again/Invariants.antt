use Rattle.std.proofs.Common.{◌≡◌, drop, map, []}
use Rattle.std.specs.Prelude.{reverse}
use Rattle.patterns.specs.View.{meta_of}
use Rattle.pattern_faults.specs.Placed.{meta_at}
use Rattle.pattern_faults.proofs.Again.{again}
use Rattle.pattern_faults.proofs.searching.first_again.Given as goal

abbrev pub invariant-loop-place : goal.invariant-loop-place
invariant-loop-place l = again l.known (reverse (map meta_of l.before.items)) (map meta_at (drop l.place-index l.placed)) ≡ again l.known [] (map meta_at l.placed)
