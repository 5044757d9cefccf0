use Rattle.std.proofs.Common.{◌≤◌, ℕ, ◌++◌, List, length, ap, ◌∙◌, arith}
use Rattle.st_tree.specs.View.{sequence_of}
use Rattle.placed_nodes.specs.declared.placed.PlacedNode.{PlacedNode}
use Rattle.placed_nodes.specs.Placing.{placed}
use Rattle.refusal_witnesses.specs.Witnesses.{WitnessOf, a_node, where_true}
use Rattle.witness_lists.specs.Views.{owner_of, shown}
use Rattle.witness_lists.proofs.Gathered.{gathered_nodes}
use Rattle.part_questions.specs.Faults.{is_at_fault}
use Rattle.part_witnesses.proofs.Pushed.{taken-all}
use Rattle.part_witnesses.proofs.parts.nodes_at_fault.Goals as goal

pub returns : goal.returns
returns c =
    let s = c.args.image.now in
    let owner = owner_of s c.args.owner.now in
    let items = c.as_slice-placed-items.result.now in
    let over : length items ≤ c.loop-placed.placed-index = omega (arith, c.loop-placed-test.false) in
    taken-all (λ (p : PlacedNode). where_true (is_at_fault c.args.asked.now c.args.fault (p.path, p.node.now)) (a_node owner p.path)) items c.loop-placed.placed-index over _ _ c.loop-placed.invariant
    ∙ ap (λ (ws : List (WitnessOf ℕ)). shown s c.args.found.now.items ++ ws)
    (gathered_nodes (is_at_fault c.args.asked.now c.args.fault) owner (sequence_of c.args.body.now) items (ap placed c.as_slice-placed-items.ensures.value ∙ c.in_ok-nodes.ensures))
