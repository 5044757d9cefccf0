use Rattle.std.proofs.Common.{◌≤◌, ℕ, ◌++◌, List, length, ap, ◌∙◌, arith}
use Rattle.std.specs.List.{flat_map}
use Rattle.std.proofs.lemmas.List.{take_all}
use Rattle.class_table.specs.declared.record.Place.TheVariants as place
use Rattle.refusal_witnesses.specs.Witnesses.{WitnessOf}
use Rattle.witness_lists.specs.Views.{shown}
use Rattle.use_witnesses.specs.Heights.{high_at}
use Rattle.use_witnesses.proofs.Highs.{methods-told}
use Rattle.use_witnesses.proofs.heights.high_methods.Goals as goal

pub returns : goal.returns
returns g c =
    let s = c.args.image.now in
    let l = c.args.looked.now in
    let over : length c.methods-slot-items.result.now ≤ c.loop-slot.slot-index = omega (arith, c.loop-slot-test.false) in
    c.loop-slot.invariant
    ∙ ap (λ (ks : List ℕ). shown s c.args.found.now.items ++ flat_map (λ k. high_at s l (place.Method k)) ks) (take_all c.loop-slot.slot-index c.methods-slot-items.result.now over ∙ c.methods-slot-items.ensures.value)
    ∙ ap (λ (ws : List (WitnessOf ℕ)). shown s c.args.found.now.items ++ ws) (methods-told s l)
