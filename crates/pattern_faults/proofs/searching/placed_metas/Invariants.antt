use Rattle.std.proofs.Common.{◌≡◌, ◌++◌, drop, map}
use Rattle.patterns.specs.View.{meta_of}
use Rattle.pattern_trees.specs.Faults.{at_places}
use Rattle.pattern_faults.specs.Placed.{meta_at}
use Rattle.pattern_faults.proofs.searching.placed_metas.Given as goal

abbrev pub invariant-loop-meta : goal.invariant-loop-meta
invariant-loop-meta l = map meta_at l.placed.items ++ at_places (map meta_of (drop l.meta-index l.metas)) l.rest ≡ at_places (map meta_of l.metas) l.places
