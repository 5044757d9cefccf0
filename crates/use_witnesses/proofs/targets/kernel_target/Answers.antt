use Rattle.std.proofs.Common.{◌≡◌, ◌++◌, ℕ, List, OnOk, sym, ap, subst, ◌∙◌}
use Rattle.std.proofs.lemmas.List.{append-nil}
use Rattle.refusal_witnesses.specs.Witnesses.{WitnessOf}
use Rattle.witness_lists.specs.Views.{shown}
use Rattle.use_witnesses.proofs.Found.{none-found, untold-found, kernel-found}
use Rattle.use_witnesses.proofs.targets.kernel_target.Goals as goal

pub returns-in_default : goal.returns-in_default
returns-in_default c =
    let s = c.args.image.now in
    let m = c.args.method.now in
    let old = shown s c.args.found.now.items in
    sym (append-nil old) ∙ ap (λ (ws : List (WitnessOf ℕ)). old ++ ws) (none-found s c.requires m.class m.meta m.selector (sym c.found_slot.ensures ∙ c.in_default.is))

pub returns-in-None : goal.returns-in-None
returns-in-None c =
    let m = c.args.method.now in
    absurd (untold-found c.args.image.now c.requires m.class m.meta m.selector c.in-Some.slot (sym c.found_slot.ensures ∙ c.in-Some.is) c.in-None.ensures)

pub returns-in-Some-method_info : goal.returns-in-Some-method_info
returns-in-Some-method_info c =
    let s = c.args.image.now in
    let m = c.args.method.now in
    subst (λ (ws : List (WitnessOf ℕ)). OnOk c.push_if.result (shown s c.push_if.new.found.items ≡ shown s c.args.found.now.items ++ ws))
    (kernel-found s c.requires m.class m.meta m.selector c.in-Some.slot (sym c.found_slot.ensures ∙ c.in-Some.is) c.in-Some-method_info.info c.in-Some-method_info.ensures) (c.push_if.ensures s)
