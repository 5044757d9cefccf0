use Rattle.std.proofs.Common.{◌∙◌}
use Rattle.std.proofs.lemmas.Result.{IfOk-weaker}
use Rattle.rb_base.specs.Names.{name_at}
use Rattle.class_table.specs.View.{image_of}
use Rattle.st_meaning.specs.StoreView.{store_of}
use Rattle.st_interp.proofs.Plug.{super_found}
use Rattle.st_interp.proofs.state.Machine.super_message.Goals as goal

pub returns-clause-rest : goal.returns-clause-rest
returns-clause-rest c =
    let i = image_of c.args.program.now in
    let names = c.args.program.now.names in
    IfOk-weaker c.run_found.result _ _
    (λ n h. h ∙ super_found i names c.args.self.now.stack.items _ c.args.context.now c.args.receiver (name_at names c.args.selector) c.args.arguments.now (store_of names c.args.self.now.store) c.in_ok-found.ensures)
    c.run_found.ensures.rest
