use Rattle.std.proofs.Common.{◌≡◌, ◌++◌, ℕ, List, [], ◌∷◌, OnOk, ap, sym, subst, ◌∙◌}
use Rattle.std.proofs.lemmas.List.{append-nil}
use Rattle.refusal_witnesses.specs.Witnesses.{WitnessOf, a_method}
use Rattle.image_model.specs.Image.{EntryOf}
use Rattle.witness_lists.specs.Views.{shown}
use Rattle.method_witnesses.proofs.Own.{none-gathered, whole-there}
use Rattle.method_witnesses.proofs.methods.method_there.Goals as goal

pub returns-in-None : goal.returns-in-None
returns-in-None c =
    let s = c.args.image.now in
    let m = c.args.method in
    let old = shown s c.args.found.now.items in
    sym (append-nil old)
    ∙ ap (λ (ws : List (WitnessOf ℕ)). old ++ ws) (none-gathered s c.requires m.class m.meta m.selector (λ (x : EntryOf ℕ). a_method x ∷ []) (sym c.own_method.ensures ∙ c.in-None.is))

pub returns-in-Some : goal.returns-in-Some
returns-in-Some c =
    let s = c.args.image.now in
    let m = c.args.method in
    subst (λ (ws : List (WitnessOf ℕ)). OnOk c.push_if.result (shown s c.push_if.new.found.items ≡ shown s c.args.found.now.items ++ ws))
    (whole-there s c.requires m.class m.meta m.selector c.in-Some.slot (sym c.own_method.ensures ∙ c.in-Some.is)) (c.push_if.ensures s)
