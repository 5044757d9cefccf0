use Rattle.std.proofs.Common.{◌≡◌, ◌++◌, ℕ, List, OnOk, subst}
use Rattle.refusal_witnesses.specs.Witnesses.{WitnessOf, AWhole, where_true}
use Rattle.witness_lists.specs.Views.{owner_of, shown}
use Rattle.use_witnesses.proofs.heights.high_at.Goals as goal

pub returns : goal.returns
returns g c =
    let s = c.args.image.now in
    subst (λ (ws : List (WitnessOf ℕ)). OnOk c.push_if.result (shown s c.push_if.new.found.items ≡ shown s c.args.found.now.items ++ ws))
    (λ j. where_true (c.in_ok-is_one.ensures j) (AWhole (owner_of s (c.owner_at-owner.ensures j))))
    (c.push_if.ensures s)
