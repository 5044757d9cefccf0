use Rattle.std.proofs.Common.{◌≡◌, drop}
use Rattle.std.specs.List.{list_all}
use Rattle.placed_nodes.specs.Placing.{placed}
use Rattle.parameter_questions.specs.Codes.{means_in, are_dropped}
use Rattle.parameter_questions.proofs.code.are_dropped_in.Given as goal

abbrev pub invariant-loop-node : goal.invariant-loop-node
invariant-loop-node l =
    list_all (are_dropped (means_in l.image l.code) l.selector l.number) (placed (drop l.node-index l.found))
    ≡ list_all (are_dropped (means_in l.image l.code) l.selector l.number) (placed l.found)
