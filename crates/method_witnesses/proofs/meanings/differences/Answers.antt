use Rattle.std.proofs.Common.{◌≤◌, ℕ, ◌++◌, List, length, sym, ap, ◌∙◌, arith}
use Rattle.std.specs.List.{flat_map}
use Rattle.std.proofs.lemmas.List.{take_all}
use Rattle.std.proofs.lemmas.List.Folds.{flat_map-map}
use Rattle.placed_nodes.specs.declared.placed.PlacedNode.{PlacedNode}
use Rattle.placed_nodes.specs.Placing.{placed}
use Rattle.refusal_witnesses.specs.Witnesses.{WitnessOf}
use Rattle.witness_lists.specs.Views.{shown}
use Rattle.method_witnesses.specs.Moved.{difference_at}
use Rattle.method_witnesses.proofs.meanings.differences.Goals as goal

pub returns : goal.returns
returns c =
    let s = c.args.image.now in
    let m = c.args.moved.now in
    let items = c.as_slice-placed-items.result.now in
    let over : length items ≤ c.loop-placed.placed-index = omega (arith, c.loop-placed-test.false) in
    c.loop-placed.invariant
    ∙ ap (λ (ps : List PlacedNode). shown s c.args.found.now.items ++ flat_map (λ (p : PlacedNode). difference_at s m (p.path, p.node.now)) ps) (take_all c.loop-placed.placed-index items over)
    ∙ ap (λ (ws : List (WitnessOf ℕ)). shown s c.args.found.now.items ++ ws)
    (sym (flat_map-map (difference_at s m) (λ (p : PlacedNode). (p.path, p.node.now)) items) ∙ ap (flat_map (difference_at s m)) (ap placed c.as_slice-placed-items.ensures.value ∙ c.in_ok-nodes.ensures))
