use Rattle.std.proofs.Common.{◌≤◌, ℕ, ◌++◌, List, length, ap, ◌∙◌, arith}
use Rattle.std.specs.List.{flat_map}
use Rattle.std.proofs.lemmas.List.{take_all}
use Rattle.placed_nodes.specs.declared.placed.PlacedNode.{PlacedNode}
use Rattle.placed_nodes.specs.Placing.{placed}
use Rattle.st_tree.specs.View.{method_of}
use Rattle.parameter_questions.proofs.Reading.{formal_at}
use Rattle.refusal_witnesses.specs.Witnesses.{WitnessOf, a_node, where_true}
use Rattle.witness_lists.specs.Views.{owner_of, shown}
use Rattle.use_witnesses.proofs.Formals.{reads-told}
use Rattle.use_witnesses.proofs.arguments.reads_in.Goals as goal

pub returns : goal.returns
returns c =
    let s = c.args.image.now in
    let m = method_of c.args.tree.now in
    let x = c.args.name in
    let owner = owner_of s c.args.owner.now in
    let items = c.as_slice-placed-items.result.now in
    let over : length items ≤ c.loop-placed.placed-index = omega (arith, c.loop-placed-test.false) in
    c.loop-placed.invariant
    ∙ ap (λ (ps : List PlacedNode). shown s c.args.found.now.items ++ flat_map (λ (p : PlacedNode). where_true (formal_at s.names m x p.path x) (a_node owner p.path)) ps) (take_all c.loop-placed.placed-index items over)
    ∙ ap (λ (ws : List (WitnessOf ℕ)). shown s c.args.found.now.items ++ ws) (reads-told s.names m x owner items (ap placed c.as_slice-placed-items.ensures.value ∙ c.in_ok-reads.ensures))
