use Rattle.std.proofs.Common.{◌∙◌}
use Rattle.std.proofs.lemmas.Result.{IfOk-weaker}
use Rattle.class_table.specs.View.{image_of}
use Rattle.st_meaning.specs.StoreView.{store_of}
use Rattle.st_interp.proofs.Values.{arguments_none, argument_next}
use Rattle.st_interp.proofs.state.Machine.arguments.Goals as goal

pub returns-in-None-clause-rest : goal.returns-in-None-clause-rest
returns-in-None-clause-rest c =
    let i = image_of c.args.program.now in
    let names = c.args.program.now.names in
    IfOk-weaker c.complete.result _ _
    (λ n h. h ∙ arguments_none i names c.args.self.now.stack.items c.args.purpose c.args.context.value c.deref.result.now c.args.done c.args.left.now (store_of names c.args.self.now.store) c.in-None.ensures.cases c.deref.ensures)
    c.complete.ensures.rest

pub returns-clause-rest : goal.returns-clause-rest
returns-clause-rest c =
    let i = image_of c.args.program.now in
    let names = c.args.program.now.names in
    IfOk-weaker c.wait.result _ _
    (λ n h. h i names ∙ argument_next i names c.args.self.now.stack.items c.args.purpose c.args.done c.args.context.value c.args.left.now c.in-Some.first.now c.in_ok-shared-in-Some.shared c.in-Some.left (store_of names c.args.self.now.store) c.in-Some.ensures.cases.0 c.in_ok-shared-in-Some.ensures.cases)
    c.wait.ensures.rest
