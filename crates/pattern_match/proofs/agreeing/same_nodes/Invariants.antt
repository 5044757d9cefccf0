use Rattle.std.proofs.Common.{◌≡◌, ◌↔◌, drop}
use Rattle.tree_model.specs.Tree.{trees_of}
use Rattle.tree_model.specs.Bare.{bare_trees}
use Rattle.pattern_match.proofs.agreeing.same_nodes.Given as goal

abbrev pub invariant-loop-i : goal.invariant-loop-i
invariant-loop-i l = (bare_trees (trees_of l.a) ≡ bare_trees (trees_of l.b)) ↔ (bare_trees (trees_of (drop l.i l.a)) ≡ bare_trees (trees_of (drop l.i l.b)))
