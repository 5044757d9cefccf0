use Rattle.std.proofs.Common.{◌∙◌}
use Rattle.std.proofs.lemmas.Result.{IfOk-weaker}
use Rattle.class_table.specs.View.{image_of}
use Rattle.st_meaning.specs.StoreView.{store_of}
use Rattle.st_interp.proofs.Values.{message_next}
use Rattle.st_interp.proofs.state.Machine.messages.Goals as goal

pub returns-clause-rest : goal.returns-clause-rest
returns-clause-rest c =
    let i = image_of c.args.program.now in
    let names = c.args.program.now.names in
    IfOk-weaker c.arguments.result _ _
    (λ n h. h ∙ message_next i names c.args.self.now.stack.items _ c.args.receiver _ c.args.value c.in-Some.message.now c.args.left.now c.in-Some.left _ c.args.context.value _ _ (store_of names c.args.self.now.store) c.in_ok-hold-in-Some.ensures c.in-Some.ensures.cases.0 c.in_ok-share-in-Some.ensures c.in_ok-clone-in-Some.ensures.cases c.new-done.ensures c.as_slice.ensures)
    c.arguments.ensures.rest
