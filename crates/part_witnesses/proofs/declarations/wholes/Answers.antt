use Rattle.std.proofs.Common.{◌≤◌, ℕ, Bool, List, ◌++◌, length, ap, ◌∙◌, arith}
use Rattle.std.specs.Prelude.{nat_eq}
use Rattle.refusal_witnesses.specs.Witnesses.{WitnessOf, AWhole, where_true}
use Rattle.witness_lists.specs.Views.{owner_of, shown}
use Rattle.witness_lists.proofs.Lists.{where-filter}
use Rattle.part_witnesses.proofs.Pushed.{taken-more, taken-all}
use Rattle.part_witnesses.proofs.declarations.wholes.Goals as goal

pub loop-other-preserved : goal.loop-other-preserved
loop-other-preserved c s =
    let all = shown s c.loop-other.found.items in
    taken-more (λ (y : ℕ). where_true (nat_eq c.args.name y) (AWhole (owner_of s c.args.owner.now))) c.args.names.now c.loop-other.other-index c.other-item.result (shown s c.args.found.now.items) all (shown s c.push_if.new.found.items) c.loop-other-test.true c.other-item.is (c.loop-other.invariant s)
    (c.in_ok-push_if.ensures s ∙ ap (λ (b : Bool). all ++ where_true b (AWhole (owner_of s c.args.owner.now))) c.eq.ensures)

pub returns : goal.returns
returns c s =
    let over : length c.args.names.now ≤ c.loop-other.other-index = omega (arith, c.loop-other-test.false) in
    taken-all (λ (y : ℕ). where_true (nat_eq c.args.name y) (AWhole (owner_of s c.args.owner.now))) c.args.names.now c.loop-other.other-index over _ _ (c.loop-other.invariant s)
    ∙ ap (λ (ws : List (WitnessOf ℕ)). shown s c.args.found.now.items ++ ws) (where-filter (nat_eq c.args.name) (λ y. AWhole (owner_of s c.args.owner.now)) c.args.names.now)
