use Rattle.std.proofs.Common.{◌≡◌, drop}
use Rattle.std.specs.List.{list_any}
use Rattle.placed_nodes.specs.Placing.{placed}
use Rattle.part_questions.specs.Faults.{is_at_fault}
use Rattle.part_questions.proofs.faults.is_any_at_fault.Given as goal

abbrev pub invariant-loop-node : goal.invariant-loop-node
invariant-loop-node l = list_any (is_at_fault l.asked l.fault) (placed (drop l.node-index l.nodes)) ≡ list_any (is_at_fault l.asked l.fault) (placed l.nodes)
