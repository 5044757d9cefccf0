use Rattle.std.proofs.Common.{◌≤◌, ℕ, List, ◌++◌, length, sym, ap, ◌∙◌, arith}
use Rattle.std.specs.List.{flat_map}
use Rattle.std.proofs.lemmas.List.Folds.{flat_map-map}
use Rattle.tree_model.specs.Nodes.{Placed}
use Rattle.placed_nodes.specs.declared.placed.PlacedNode.{PlacedNode}
use Rattle.placed_nodes.specs.Placing.{placed}
use Rattle.refusal_witnesses.specs.Witnesses.{WitnessOf}
use Rattle.witness_lists.specs.Views.{owner_of, shown}
use Rattle.part_witnesses.specs.Changed.{declared_at}
use Rattle.part_witnesses.proofs.Pushed.{taken-all}
use Rattle.part_witnesses.proofs.declarations.block_declarations.Goals as goal

pub returns : goal.returns
returns c =
    let s = c.args.image.now in
    let f : Placed ℕ → List (WitnessOf ℕ) = declared_at (owner_of s c.args.owner.now) c.args.name in
    let items = c.as_slice-placed-items.result.now in
    let over : length items ≤ c.loop-placed.placed-index = omega (arith, c.loop-placed-test.false) in
    taken-all (λ (p : PlacedNode). f (p.path, p.node.now)) items c.loop-placed.placed-index over _ _ c.loop-placed.invariant
    ∙ ap (λ (ws : List (WitnessOf ℕ)). shown s c.args.found.now.items ++ ws)
    (sym (flat_map-map f (λ (p : PlacedNode). (p.path, p.node.now)) items) ∙ ap (flat_map f) (ap placed c.as_slice-placed-items.ensures.value ∙ c.in_ok-nodes.ensures))
