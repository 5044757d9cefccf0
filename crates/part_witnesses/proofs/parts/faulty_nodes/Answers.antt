use Rattle.std.proofs.Common.{◌≡◌, ℕ, ◌++◌, List, OnOk, refl, ap, subst, ◌∙◌}
use Rattle.part_questions.specs.declared.faults.Asked.{Asked}
use Rattle.part_questions.specs.Parts.{part_of}
use Rattle.refusal_witnesses.specs.Witnesses.{WitnessOf}
use Rattle.witness_lists.specs.declared.witness.Owner.TheVariants as owner
use Rattle.witness_lists.specs.Views.{owner_of, shown}
use Rattle.part_witnesses.specs.Held.{held_as}
use Rattle.part_witnesses.specs.Standing.{fault_standing}
use Rattle.part_witnesses.proofs.Faults.{fault-told}
use Rattle.part_witnesses.proofs.parts.faulty_nodes.Goals as goal

pub returns : goal.returns
returns c =
    let s = c.args.image.now in
    let p = c.args.part.now in
    let m = held_as s.classes p.method in
    let it : Asked = record { names = c.names.result; method = p.method.tree; part = record { ref_ptr = c.args.part.ref_ptr; now = p.part } } in
    subst (λ (ws : List (WitnessOf ℕ)). OnOk c.nodes_at_fault.result (shown s c.nodes_at_fault.new.found.items ≡ shown s c.args.found.now.items ++ ws))
    (fault-told it (owner_of s (owner.Method p.method.slot)) c.args.fault m refl c.requires.owner ∙ ap (λ (ns : List (List ℕ)). fault_standing ns c.args.fault m (part_of p.part)) c.names.ensures)
    c.nodes_at_fault.ensures
