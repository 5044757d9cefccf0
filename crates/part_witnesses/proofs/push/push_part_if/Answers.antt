use Rattle.std.proofs.Common.{◌≡◌, ℕ, List, ◌++◌, OnOk, sym, ap, subst, ◌∙◌}
use Rattle.std.proofs.lemmas.Result.{on_ok_weaker}
use Rattle.st_tree.specs.declared.path.Part as declared
use Rattle.command_model.specs.Parts.{Run}
use Rattle.part_questions.specs.Parts.{part_of}
use Rattle.refusal_witnesses.specs.Witnesses.{APart, where_true}
use Rattle.witness_lists.specs.Views.{owner_of, shown}
use Rattle.part_witnesses.proofs.push.push_part_if.Goals as goal

pub returns-in-Expression : goal.returns-in-Expression
returns-in-Expression c s =
    subst (λ (q : declared.Part). OnOk c.push_node_if.result (shown s c.push_node_if.new.found.items ≡ shown s c.args.found.now.items ++ where_true c.args.test (APart (owner_of s c.args.owner.now) (part_of q))))
    (sym c.in-Expression.is) (c.push_node_if.ensures s)

pub returns-in_ok-try_copy-in-Run : goal.returns-in_ok-try_copy-in-Run
returns-in_ok-try_copy-in-Run c s =
    let old = shown s c.args.found.now.items in
    let o = owner_of s c.args.owner.now in
    on_ok_weaker c.push_if.result
    (λ e. e
    ∙ ap (λ (p : List ℕ). old ++ where_true c.args.test (APart o (Run p c.in-Run.first c.in-Run.count))) c.in_ok-try_copy-in-Run.ensures
    ∙ ap (λ (q : declared.Part). old ++ where_true c.args.test (APart o (part_of q))) (sym c.in-Run.is))
    (c.push_if.ensures s)
