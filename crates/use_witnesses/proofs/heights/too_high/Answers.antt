use Rattle.std.proofs.Common.{◌≡◌, ◌++◌, ℕ, List, OnOk, subst}
use Rattle.refusal_witnesses.specs.Witnesses.{WitnessOf}
use Rattle.witness_lists.specs.Views.{shown}
use Rattle.use_witnesses.proofs.Highs.{all-told}
use Rattle.use_witnesses.proofs.heights.too_high.Goals as goal

pub returns : goal.returns
returns g c =
    let s = c.args.image.now in
    subst (λ (ws : List (WitnessOf ℕ)). OnOk c.high_there.result (shown s c.high_there.new.found.items ≡ shown s c.args.found.now.items ++ ws)) (all-told s) c.high_there.ensures
