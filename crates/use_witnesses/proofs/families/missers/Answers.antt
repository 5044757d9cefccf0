use Rattle.std.proofs.Common.{◌≡◌, ◌++◌, ℕ, Bool, List, [], cond, OnOk, sym, ap, subst, ◌∙◌}
use Rattle.std.proofs.lemmas.List.{append-nil}
use Rattle.refusal_witnesses.specs.Witnesses.{WitnessOf}
use Rattle.witness_lists.specs.Views.{shown}
use Rattle.use_witnesses.proofs.Told.{sent, sent-told, none-missing, missing}
use Rattle.use_witnesses.proofs.families.missers.Goals as goal

pub returns-in_default : goal.returns-in_default
returns-in_default g c =
    let s = c.args.image.now in
    let old = shown s c.args.found.now.items in
    sym (append-nil old) ∙ ap (λ (ws : List (WitnessOf ℕ)). old ++ ws) (none-missing s c.requires c.args.method (sym c.named_slot.ensures ∙ c.in_default.is))

pub returns-then-branch : goal.returns-then-branch
returns-then-branch g c =
    let s = c.args.image.now in
    let n = c.args.method in
    let old = shown s c.args.found.now.items in
    sym (append-nil old)
    ∙ ap (λ (ws : List (WitnessOf ℕ)). old ++ ws)
    (ap (λ (b : Bool). cond b [] (sent s c.requires n)) (sym c.if-branch.true ∙ c.in_ok-is_inherited.ensures)
    ∙ missing s c.requires n c.in-Some.slot (sym c.named_slot.ensures ∙ c.in-Some.is))

pub returns : goal.returns
returns g c =
    let s = c.args.image.now in
    let n = c.args.method in
    subst (λ (ws : List (WitnessOf ℕ)). OnOk c.uses_there.result (shown s c.uses_there.new.found.items ≡ shown s c.args.found.now.items ++ ws))
    (sent-told s n.selector
    ∙ ap (λ (b : Bool). cond b [] (sent s c.requires n)) (sym c.if-branch.false ∙ c.in_ok-is_inherited.ensures)
    ∙ missing s c.requires n c.in-Some.slot (sym c.named_slot.ensures ∙ c.in-Some.is))
    c.uses_there.ensures
