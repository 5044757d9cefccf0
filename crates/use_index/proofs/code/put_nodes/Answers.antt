use Rattle.std.proofs.Common.{◌≡◌, ◌≤◌, ◌+◌, ◌∷◌, ℕ, List, length, drop, ap, arith}
use Rattle.std.proofs.Math.ListN.{drop_of_length-le}
use Rattle.tree_model.specs.Nodes.{Placed}
use Rattle.placed_nodes.specs.Placing.{placed}
use Rattle.use_index.specs.declared.uses.UseAt.{UseAt}
use Rattle.use_index.specs.Code.{bound_in}
use Rattle.use_index.specs.Uses.{node_uses}
use Rattle.use_index.proofs.Walks.{flat-step, flat-end, drop-next}
use Rattle.use_index.proofs.code.put_nodes.Goals as goal

pub loop-node-preserved : goal.loop-node-preserved
loop-node-preserved c =
    let f : Placed ℕ → List UseAt = λ e. node_uses (bound_in c.args.names.now c.args.code) e.0 e.1 in
    let k = c.loop-node.node-index in
    let next : drop k c.args.nodes.now ≡ c.node-item.result ∷ drop (k + 1) c.args.nodes.now = drop-next c.args.nodes.now k c.node-item.result c.loop-node-test.true c.node-item.is in
    flat-step f (c.node-item.result.path, c.node-item.result.node.now) (placed (drop (k + 1) c.args.nodes.now)) c.loop-node.uses c.put_node.new.uses _
    c.in_ok-put_node.ensures
    (rw next at c.loop-node.invariant)

pub returns : goal.returns
returns c =
    let end : length c.args.nodes.now ≤ c.loop-node.node-index = omega arith in
    let f : Placed ℕ → List UseAt = λ e. node_uses (bound_in c.args.names.now c.args.code) e.0 e.1 in
    flat-end f (placed (drop c.loop-node.node-index c.args.nodes.now)) c.loop-node.uses _ (ap placed (drop_of_length-le c.args.nodes.now end)) c.loop-node.invariant
