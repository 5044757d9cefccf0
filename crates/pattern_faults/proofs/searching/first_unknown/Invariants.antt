use Rattle.std.proofs.Common.{◌≡◌, drop, map}
use Rattle.std.specs.Prelude.{nat_eq}
use Rattle.patterns.specs.View.{meta_of}
use Rattle.pattern_trees.specs.Faults.{first_unknown}
use Rattle.pattern_faults.specs.Placed.{meta_at}
use Rattle.pattern_faults.proofs.searching.first_unknown.Given as goal

abbrev pub invariant-loop-place : goal.invariant-loop-place
invariant-loop-place l =
    first_unknown nat_eq (map meta_of l.known) (map meta_at (drop l.place-index l.placed)) ≡ first_unknown nat_eq (map meta_of l.known) (map meta_at l.placed)
