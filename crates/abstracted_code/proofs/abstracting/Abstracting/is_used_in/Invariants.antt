use Rattle.std.proofs.Common.{◌≡◌, drop}
use Rattle.std.specs.List.{list_any}
use Rattle.placed_nodes.specs.Placing.{placed}
use Rattle.abstracted_code.specs.Free.{is_use}
use Rattle.abstracted_code.proofs.abstracting.Abstracting.is_used_in.Given as goal

abbrev pub invariant-loop-node : goal.invariant-loop-node
invariant-loop-node l = list_any (is_use l.self) (placed (drop l.node-index l.found)) ≡ list_any (is_use l.self) (placed l.found)
