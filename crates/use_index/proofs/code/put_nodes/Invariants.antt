use Rattle.std.proofs.Common.{◌≡◌, ◌++◌, ℕ, drop}
use Rattle.std.specs.List.{flat_map}
use Rattle.tree_model.specs.Nodes.{Placed}
use Rattle.placed_nodes.specs.Placing.{placed}
use Rattle.use_index.specs.Code.{bound_in}
use Rattle.use_index.specs.Uses.{node_uses}
use Rattle.use_index.proofs.code.put_nodes.Given as goal

abbrev pub invariant-loop-node : goal.invariant-loop-node
invariant-loop-node l =
    l.uses ++ flat_map (λ (e : Placed ℕ). node_uses (bound_in l.names l.code) e.0 e.1) (placed (drop l.node-index l.nodes))
    ≡ l.initial.uses ++ flat_map (λ (e : Placed ℕ). node_uses (bound_in l.names l.code) e.0 e.1) (placed l.nodes)
