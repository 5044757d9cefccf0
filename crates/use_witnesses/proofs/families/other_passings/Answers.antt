use Rattle.std.proofs.Common.{◌≡◌, ◌++◌, ℕ, List, OnOk, ap, subst, ◌∙◌}
use Rattle.refusal_witnesses.specs.Witnesses.{WitnessOf}
use Rattle.witness_lists.specs.Views.{shown}
use Rattle.use_questions.specs.declared.question.Whose.TheVariants as whose
use Rattle.use_witnesses.specs.declared.uses.Use.TheVariants as node
use Rattle.use_witnesses.specs.Uses.{uses_there}
use Rattle.use_witnesses.proofs.Told.{passed-told}
use Rattle.use_witnesses.proofs.families.other_passings.Goals as goal

pub returns : goal.returns
returns g c =
    let s = c.args.image.now in
    subst (λ (ws : List (WitnessOf ℕ)). OnOk c.uses_there.result (shown s c.uses_there.new.found.items ≡ shown s c.args.found.now.items ++ ws))
    (ap (λ (k : ℕ). uses_there s (record { whose = whose.Everyone; what = node.Passes c.args.selector k })) c.saturating_sub.ensures ∙ passed-told s c.args.selector c.args.argument)
    c.uses_there.ensures
