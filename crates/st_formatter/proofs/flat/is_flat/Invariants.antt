use Rattle.std.proofs.Common.{◌≡◌}
use Rattle.tree_model.specs.Measure.{trees_weight}
use Rattle.text_model.specs.Flat.{is_flat, are_trees_flat}
use Rattle.st_formatter.specs.Waiting.{trees_at}
use Rattle.st_formatter.proofs.flat.is_flat.Given as goal

abbrev pub invariant-loop-next : goal.invariant-loop-next
invariant-loop-next l = are_trees_flat (trees_at l.waiting.items) ≡ is_flat l.node

abbrev pub decreases-loop-next : goal.decreases-loop-next
decreases-loop-next l = trees_weight (trees_at l.waiting.items)
