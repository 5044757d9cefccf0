use Rattle.std.proofs.Common.{◌≡◌, ℕ, List, ◌++◌, ap, ◌∙◌, arith, rules}
use Rattle.std.proofs.lemmas.Grind.{common_steps}
use Rattle.std.proofs.lemmas.Result.{on_ok_weaker}
use Rattle.refusal_witnesses.specs.InlineWitnesses.{above}
use Rattle.refusal_witnesses.specs.Witnesses.{a_node, where_true}
use Rattle.witness_lists.specs.Views.{owner_of, shown}
use Rattle.part_witnesses.proofs.push.push_above_if.Goals as goal

pub returns : goal.returns
returns c s =
    let path : c.from_vec-path.result ≡ above c.args.path.now = first_of (search rules, grind (arith, common_steps)) in
    on_ok_weaker c.push_if.result
    (λ e. e ∙ ap (λ (p : List ℕ). shown s c.args.found.now.items ++ where_true c.args.test (a_node (owner_of s c.args.owner.now) p)) path)
    (c.push_if.ensures s)
