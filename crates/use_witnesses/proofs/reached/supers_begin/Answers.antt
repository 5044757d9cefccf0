use Rattle.std.proofs.Common.{◌≤◌, ℕ, ◌++◌, List, length, ap, ◌∙◌, arith}
use Rattle.std.specs.List.{flat_map}
use Rattle.std.proofs.lemmas.List.{take_all}
use Rattle.class_table.specs.View.{entry_of}
use Rattle.refusal_witnesses.specs.Witnesses.{WitnessOf}
use Rattle.witness_lists.specs.Views.{shown}
use Rattle.witness_lists.proofs.Lists.{gathered_live}
use Rattle.use_witnesses.specs.Reached.{entry_begins, slot_begins}
use Rattle.use_witnesses.proofs.reached.supers_begin.Goals as goal

pub returns : goal.returns
returns g c =
    let s = c.args.image.now in
    let over : length c.methods-slot-items.result.now ≤ c.loop-slot.slot-index = omega (arith, c.loop-slot-test.false) in
    c.loop-slot.invariant
    ∙ ap (λ (ks : List ℕ). shown s c.args.found.now.items ++ flat_map (slot_begins s c.args.class c.args.selector) ks) (take_all c.loop-slot.slot-index c.methods-slot-items.result.now over ∙ c.methods-slot-items.ensures.value)
    ∙ ap (λ (ws : List (WitnessOf ℕ)). shown s c.args.found.now.items ++ ws) (gathered_live (entry_of s.classes) (entry_begins s c.args.class c.args.selector) s.methods s.method_order)
