use Rattle.std.proofs.Common.{◌≤◌, ℕ, ◌++◌, List, length, ap, ◌∙◌, arith}
use Rattle.std.specs.List.{flat_map}
use Rattle.std.proofs.lemmas.List.{take_all}
use Rattle.tree_model.specs.Nodes.{Placed}
use Rattle.st_tree.specs.View.{sequence_of}
use Rattle.placed_nodes.specs.declared.placed.PlacedNode.{PlacedNode}
use Rattle.placed_nodes.specs.Placing.{placed}
use Rattle.refusal_witnesses.specs.Witnesses.{WitnessOf, a_node, where_true}
use Rattle.witness_lists.specs.Sought.{passes}
use Rattle.witness_lists.specs.Views.{owner_of, shown}
use Rattle.witness_lists.proofs.Gathered.{gathered_nodes}
use Rattle.witness_lists.proofs.code.nodes_that.Goals as goal

pub returns : goal.returns
returns c =
    let s = c.args.image.now in
    let owner = owner_of s c.args.owner.now in
    let items = c.as_slice-placed-items.result.now in
    let over : length items ≤ c.loop-placed.placed-index = omega (arith, c.loop-placed-test.false) in
    c.loop-placed.invariant
    ∙ ap (λ (ps : List PlacedNode). shown s c.args.found.now.items ++ flat_map (λ (p : PlacedNode). where_true (passes s.names c.args.sought.now p.node.now) (a_node owner p.path)) ps) (take_all c.loop-placed.placed-index items over)
    ∙ ap (λ (ws : List (WitnessOf ℕ)). shown s c.args.found.now.items ++ ws)
    (gathered_nodes (λ (e : Placed ℕ). passes s.names c.args.sought.now e.1) owner (sequence_of c.args.body.now) items (ap placed c.as_slice-placed-items.ensures.value ∙ c.in_ok-nodes.ensures))
