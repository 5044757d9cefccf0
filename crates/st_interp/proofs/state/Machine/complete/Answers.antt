use Rattle.std.proofs.Common.{sym, ◌∙◌}
use Rattle.std.proofs.lemmas.Result.{IfOk-weaker}
use Rattle.class_table.specs.View.{image_of}
use Rattle.st_meaning.specs.StoreView.{store_of}
use Rattle.st_interp.proofs.Plug.{sent_super, sent_plainly}
use Rattle.st_interp.proofs.state.Machine.complete.Goals as goal

pub returns-then-is_super_node-clause-rest : goal.returns-then-is_super_node-clause-rest
returns-then-is_super_node-clause-rest c =
    let i = image_of c.args.program.now in
    let names = c.args.program.now.names in
    IfOk-weaker c.super_message.result _ _
    (λ n h. h ∙ sent_super i names c.args.self.now.stack.items _ _ c.in-Send.node _ c.args.context.now _ _ (store_of names c.args.self.now.store) c.in-Send.is (sym c.is_super_node.ensures ∙ c.if-is_super_node.true) c.as_slice.ensures)
    c.super_message.ensures.rest

pub returns-in-Send-clause-rest : goal.returns-in-Send-clause-rest
returns-in-Send-clause-rest c =
    let i = image_of c.args.program.now in
    let names = c.args.program.now.names in
    IfOk-weaker c.message.result _ _
    (λ n h. h ∙ sent_plainly i names c.args.self.now.stack.items _ _ c.in-Send.node _ c.args.context.now _ _ (store_of names c.args.self.now.store) c.in-Send.is (sym c.is_super_node.ensures ∙ c.if-is_super_node.false) c.as_slice-else-is_super_node.ensures)
    c.message.ensures.rest
