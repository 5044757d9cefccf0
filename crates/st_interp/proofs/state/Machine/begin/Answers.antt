use Rattle.std.proofs.Common.{sym, ap, ◌∙◌}
use Rattle.std.proofs.lemmas.Result.{IfOk-weaker}
use Rattle.run_model.specs.Acts.{then_do, and_then, acts}
use Rattle.run_model.specs.Eval.{node, statements, evaluates}
use Rattle.st_meaning.specs.StoreView.{store_of}
use Rattle.st_interp.specs.Trees.{tree_at, statements_at}
use Rattle.st_interp.specs.Machine.{plug}
use Rattle.st_interp.proofs.state.Machine.begin.Goals as goal

pub returns-clause-rest : goal.returns-clause-rest
unfolding and_then
returns-clause-rest c =
    let ks = c.args.self.now.stack.items in
    let f = c.args.context.value in
    IfOk-weaker c.wait.result _ _
    (λ n h i names. h i names
    ∙ (λ j. plug i names ks (then_do (evaluates i (node f (tree_at names c.in-Some.first.now.node)) (store_of names c.args.self.now.store)) (λ u. statements acts (evaluates i) (c.in_ok-clone-in-Some.ensures.cases j) u (statements_at names c.in-Some.left.now))))
    ∙ ap (λ z. plug i names ks (statements acts (evaluates i) f c.args.value (statements_at names z) (store_of names c.args.self.now.store))) (sym c.in-Some.ensures.cases.0))
    c.wait.ensures.rest
