use Rattle.std.proofs.Common.{◌≡◌, ◌++◌, ℕ, List, OnOk, ap, sym, subst, ◌∙◌}
use Rattle.std.proofs.lemmas.List.{append-nil}
use Rattle.refusal_witnesses.specs.Witnesses.{WitnessOf, a_method, where_true}
use Rattle.image_model.specs.Image.{EntryOf}
use Rattle.witness_lists.specs.Views.{shown}
use Rattle.method_witnesses.proofs.Own.{none-gathered, kernel-told, untold}
use Rattle.method_witnesses.proofs.methods.kernel_method.Goals as goal

pub returns-in_default : goal.returns-in_default
returns-in_default c =
    let s = c.args.image.now in
    let m = c.args.method in
    let old = shown s c.args.found.now.items in
    sym (append-nil old)
    ∙ ap (λ (ws : List (WitnessOf ℕ)). old ++ ws) (none-gathered s c.requires m.class m.meta m.selector (λ (x : EntryOf ℕ). where_true x.kernel (a_method x)) (sym c.own_method.ensures ∙ c.in_default.is))

pub returns-in-None : goal.returns-in-None
returns-in-None c =
    let m = c.args.method in
    absurd (untold c.args.image.now c.requires m.class m.meta m.selector c.in-Some.slot (sym c.own_method.ensures ∙ c.in-Some.is) c.in-None.ensures)

pub returns-in-Some-method_info : goal.returns-in-Some-method_info
returns-in-Some-method_info c =
    let s = c.args.image.now in
    let m = c.args.method in
    subst (λ (ws : List (WitnessOf ℕ)). OnOk c.push_if.result (shown s c.push_if.new.found.items ≡ shown s c.args.found.now.items ++ ws))
    (kernel-told s c.requires m.class m.meta m.selector c.in-Some.slot c.in-Some-method_info.info (sym c.own_method.ensures ∙ c.in-Some.is) c.in-Some-method_info.ensures) (c.push_if.ensures s)
