use Rattle.std.proofs.Common.{length, ◌++◌, ap, ◌∙◌}
use Rattle.std.proofs.lemmas.Result.{IfOk-weaker}
use Rattle.run_model.specs.Store.{with_new_cells}
use Rattle.run_model.specs.Eval.{held, in_cells, inside}
use Rattle.st_meaning.specs.StoreView.{changed_by, store_of}
use Rattle.st_interp.specs.Trees.{texts_at, statements_at, sequence_at}
use Rattle.st_interp.proofs.Plug.{sequence_opened}
use Rattle.st_interp.proofs.state.Machine.sequence.Goals as goal

pub returns-clause-rest : goal.returns-clause-rest
returns-clause-rest c =
    let names = c.args.program.now.names in
    let s = store_of names c.args.self.now.store in
    let ps = c.args.parameters.now in
    let ts = c.args.body.now.temporaries in
    let f = c.args.context.now.value in
    IfOk-weaker c.begin.result _ _
    (λ n h i. h i names ∙ sequence_opened i names c.args.self.now.stack.items _ (texts_at names ps) c.args.arguments.now (sequence_at names c.args.body.now) _ f _ s _ c.nil.ensures (ap (statements_at names) c.as_slice.ensures)
    (c.in_ok-inner.ensures.context ∙ ap (λ z. inside f (held (texts_at z ps) c.args.arguments.now ++ in_cells (texts_at z ts) (length s.memory.cells))) c.names.ensures)
    (c.in_ok-inner.ensures.store names ∙ ap (λ z. changed_by (λ m. with_new_cells m (texts_at z ts)) s) c.names.ensures))
    c.begin.ensures.rest
