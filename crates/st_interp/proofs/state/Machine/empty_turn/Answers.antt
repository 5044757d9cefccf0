use Rattle.std.proofs.Common.{ap, ◌∙◌}
use Rattle.run_model.specs.Store.{with_new_cells}
use Rattle.st_meaning.specs.StoreView.{changed_by, store_of}
use Rattle.st_interp.specs.Trees.{texts_at}
use Rattle.st_interp.specs.Machine.{rest}
use Rattle.st_interp.proofs.Begun.{turn_empty}
use Rattle.st_interp.proofs.state.Machine.empty_turn.Goals as goal

pub returns-clause-rest : goal.returns-clause-rest
returns-clause-rest c = λ i.
    let names = c.args.program.now.names in
    let m = c.args.self.now in
    let s = store_of names c.args.self.now.store in
    let ts = c.args.blocks.test.now.temporaries in
    ap (rest i names (record m { store = c.open.new.self })) c.fails.ensures
    ∙ turn_empty i names c.args.self.now.stack.items c.args.blocks c.args.context.now.value s _ c.requires (c.in_ok-open.ensures.store names ∙ ap (λ z. changed_by (λ m. with_new_cells m (texts_at z ts)) s) c.names.ensures)
