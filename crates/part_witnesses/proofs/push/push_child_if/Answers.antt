use Rattle.std.proofs.Common.{◌≡◌, ℕ, List, [], ◌∷◌, ◌++◌, ap, ◌∙◌}
use Rattle.std.proofs.lemmas.Result.{on_ok_weaker}
use Rattle.refusal_witnesses.specs.Witnesses.{a_node, where_true}
use Rattle.witness_lists.specs.Views.{owner_of, shown}
use Rattle.part_witnesses.proofs.push.push_child_if.Goals as goal

pub returns : goal.returns
returns c s =
    let path : c.push.new.self ≡ c.args.path.now ++ c.args.step ∷ [] = c.in_ok-push.ensures.ok ∙ ap (λ (p : List ℕ). p ++ c.args.step ∷ []) c.in_ok-path.ensures in
    on_ok_weaker c.push_if.result
    (λ e. e ∙ ap (λ (p : List ℕ). shown s c.args.found.now.items ++ where_true c.args.test (a_node (owner_of s c.args.owner.now) p)) path)
    (c.push_if.ensures s)
