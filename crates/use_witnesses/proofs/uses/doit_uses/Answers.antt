use Rattle.std.proofs.Common.{◌≡◌, ◌++◌, ℕ, List, OnOk, option_copied, sym, ap, subst, ◌∙◌}
use Rattle.refusal_witnesses.specs.Witnesses.{WitnessOf}
use Rattle.witness_lists.specs.Views.{shown}
use Rattle.use_witnesses.proofs.Numbered.{doit-told}
use Rattle.use_witnesses.proofs.uses.doit_uses.Goals as goal

pub returns-in-Some : goal.returns-in-Some
returns-in-Some g c =
    let s = c.args.image.now in
    subst (λ (ws : List (WitnessOf ℕ)). OnOk c.uses_in_code.result (shown s c.uses_in_code.new.found.items ≡ shown s c.args.found.now.items ++ ws))
    (doit-told s c.args.sought.now c.args.number c.in-Some.body (sym (ap option_copied c.in-Some.is) ∙ c.open_doit.ensures.body))
    c.uses_in_code.ensures
