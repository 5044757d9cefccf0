use Rattle.std.proofs.Common.{◌≡◌, ◌++◌, ℕ, List, OnOk, ap, sym, subst, ◌∙◌}
use Rattle.std.proofs.lemmas.List.{append-nil}
use Rattle.refusal_witnesses.specs.Witnesses.{WitnessOf}
use Rattle.witness_lists.specs.declared.code.Whose.TheVariants as whose
use Rattle.witness_lists.specs.declared.nodes.Sought.TheVariants as sought
use Rattle.witness_lists.specs.Views.{shown}
use Rattle.witness_lists.specs.Walks.{method_found}
use Rattle.method_witnesses.proofs.Own.{none-gathered, own-gathered}
use Rattle.method_witnesses.proofs.methods.supers.Goals as goal

pub returns-in-None : goal.returns-in-None
returns-in-None g c =
    let s = c.args.image.now in
    let m = c.args.method in
    let old = shown s c.args.found.now.items in
    sym (append-nil old)
    ∙ ap (λ (ws : List (WitnessOf ℕ)). old ++ ws) (none-gathered s c.requires m.class m.meta m.selector (method_found s.names whose.Everyone sought.Super) (sym c.own_method.ensures ∙ c.in-None.is))

pub returns-in-Some : goal.returns-in-Some
returns-in-Some g c =
    let s = c.args.image.now in
    let m = c.args.method in
    subst (λ (ws : List (WitnessOf ℕ)). OnOk c.slot_witnesses.result (shown s c.slot_witnesses.new.found.items ≡ shown s c.args.found.now.items ++ ws))
    (own-gathered s c.requires m.class m.meta m.selector (method_found s.names whose.Everyone sought.Super) c.in-Some.slot (sym c.own_method.ensures ∙ c.in-Some.is)) c.slot_witnesses.ensures
