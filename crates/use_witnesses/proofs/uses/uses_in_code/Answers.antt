use Rattle.std.proofs.Common.{◌≤◌, ℕ, ◌++◌, List, length, ap, ◌∙◌, arith}
use Rattle.std.specs.List.{flat_map}
use Rattle.std.proofs.lemmas.List.{take_all}
use Rattle.tree_model.specs.Tree.{SequenceOf}
use Rattle.st_tree.specs.View.{sequence_of}
use Rattle.parameter_questions.specs.Codes.{means_in}
use Rattle.placed_nodes.specs.declared.placed.PlacedNode.{PlacedNode}
use Rattle.placed_nodes.specs.Placing.{placed}
use Rattle.refusal_witnesses.specs.Witnesses.{WitnessOf, a_node, nodes_that, where_true}
use Rattle.witness_lists.specs.Views.{owner_of, shown}
use Rattle.use_witnesses.specs.Uses.{is_use}
use Rattle.use_witnesses.proofs.Numbered.{gathered-placed}
use Rattle.use_witnesses.proofs.uses.uses_in_code.Goals as goal

pub returns : goal.returns
returns c =
    let s = c.args.image.now in
    let owner = owner_of s c.args.owner.now in
    let test = is_use c.args.what.now (means_in s c.args.code.now) in
    let items = c.as_slice-placed-items.result.now in
    let over : length items ≤ c.loop-placed.placed-index = omega (arith, c.loop-placed-test.false) in
    c.loop-placed.invariant
    ∙ ap (λ (ps : List PlacedNode). shown s c.args.found.now.items ++ flat_map (λ (p : PlacedNode). where_true (test (p.path, p.node.now)) (a_node owner p.path)) ps) (take_all c.loop-placed.placed-index items over)
    ∙ ap (λ (ws : List (WitnessOf ℕ)). shown s c.args.found.now.items ++ ws)
    (gathered-placed test owner (sequence_of c.body_of.result.now) items (ap placed c.as_slice-placed-items.ensures.value ∙ c.in_ok-nodes.ensures) ∙ ap (λ (b : SequenceOf ℕ). nodes_that test owner b) c.body_of.ensures)
