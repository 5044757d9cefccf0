use Rattle.std.proofs.Common.{◌≡◌, ◌++◌, ℕ, List, OnOk, subst}
use Rattle.refusal_witnesses.specs.Witnesses.{WitnessOf}
use Rattle.witness_lists.specs.Views.{shown}
use Rattle.use_witnesses.proofs.Told.{outer-told}
use Rattle.use_witnesses.proofs.families.outer_uses.Goals as goal

pub returns : goal.returns
returns g c =
    let s = c.args.image.now in
    subst (λ (ws : List (WitnessOf ℕ)). OnOk c.uses_there.result (shown s c.uses_there.new.found.items ≡ shown s c.args.found.now.items ++ ws)) (outer-told s c.args.class) c.uses_there.ensures
