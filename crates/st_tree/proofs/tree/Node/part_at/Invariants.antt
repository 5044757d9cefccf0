use Rattle.std.proofs.Common.{◌≡◌, drop}
use Rattle.tree_model.specs.Path.{part_at}
use Rattle.st_tree.proofs.tree.Node.part_at.Given as goal

abbrev pub invariant-loop-step : goal.invariant-loop-step
invariant-loop-step l = part_at l.node (drop l.step-index l.path) ≡ part_at l.self l.path
