use Rattle.std.proofs.Common.{refl, ◌∙◌}
use Rattle.std.proofs.lemmas.Result.{IfOk-weaker}
use Rattle.st_meaning.specs.StoreView.{store_of}
use Rattle.st_program.specs.Found.{entry_from}
use Rattle.st_interp.proofs.Plug.{activated}
use Rattle.st_interp.proofs.state.Machine.activate.Goals as goal

pub returns-clause-rest : goal.returns-clause-rest
returns-clause-rest c =
    let names = c.args.program.now.names in
    let m = entry_from names c.args.found in
    IfOk-weaker c.sequence.result _ _
    (λ n h i. h i ∙ activated i names c.args.self.now.stack.items _ _ m c.args.receiver _ c.args.arguments.now _ _ m.tree.arguments m.tree.body (store_of names c.args.self.now.store) _ c.in_ok-context.ensures.stack c.in_ok-hold.ensures c.in_ok-value.ensures refl (c.in_ok-context.ensures.store names) c.in_ok-context.ensures.context refl refl)
    c.sequence.ensures.rest
