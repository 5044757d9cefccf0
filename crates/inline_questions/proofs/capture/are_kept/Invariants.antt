use Rattle.std.proofs.Common.{◌≡◌, drop}
use Rattle.std.specs.List.{list_all}
use Rattle.placed_nodes.specs.Placing.{placed}
use Rattle.inline_questions.specs.Kept.{is_kept}
use Rattle.inline_questions.proofs.capture.are_kept.Given as goal

abbrev pub invariant-loop-node : goal.invariant-loop-node
invariant-loop-node l = list_all (is_kept l.image l.call) (placed (drop l.node-index l.found)) ≡ list_all (is_kept l.image l.call) (placed l.found)
