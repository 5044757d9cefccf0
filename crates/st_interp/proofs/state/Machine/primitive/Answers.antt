use Rattle.std.proofs.Common.{◌∙◌}
use Rattle.std.proofs.lemmas.Result.{IfOk-weaker}
use Rattle.class_table.specs.View.{image_of}
use Rattle.st_meaning.specs.StoreView.{store_of}
use Rattle.st_interp.proofs.Primitives.{primitive_done}
use Rattle.st_interp.proofs.state.Machine.primitive.Goals as goal

pub returns-in-Answer-clause-rest : goal.returns-in-Answer-clause-rest
returns-in-Answer-clause-rest c =
    let names = c.args.program.now.names in
    primitive_done c.args.program.now c.image-image.result.now names c.args.self.now.stack.items c.args.number c.args.receiver.now c.args.arguments.now c.in_ok-value.field-0 _ (store_of names c.args.self.now.store) (store_of names c.primitive.new.store) c.in-Answer.is c.image-image.ensures.value (c.in_ok-value.ensures.done names)

pub returns-in-Fault-clause-rest : goal.returns-in-Fault-clause-rest
returns-in-Fault-clause-rest c =
    let names = c.args.program.now.names in
    primitive_done c.args.program.now c.image-image.result.now names c.args.self.now.stack.items c.args.number c.args.receiver.now c.args.arguments.now c.in_ok-value.field-0 _ (store_of names c.args.self.now.store) (store_of names c.primitive.new.store) c.in-Fault.is c.image-image.ensures.value (c.in_ok-value.ensures.done names)

pub returns-in-Spent-clause-rest : goal.returns-in-Spent-clause-rest
returns-in-Spent-clause-rest c =
    let names = c.args.program.now.names in
    primitive_done c.args.program.now c.image-image.result.now names c.args.self.now.stack.items c.args.number c.args.receiver.now c.args.arguments.now c.in_ok-value.field-0 _ (store_of names c.args.self.now.store) (store_of names c.primitive.new.store) c.in-Spent.is c.image-image.ensures.value (c.in_ok-value.ensures.done names)

pub returns-in-Enter-clause-rest : goal.returns-in-Enter-clause-rest
returns-in-Enter-clause-rest c =
    let names = c.args.program.now.names in
    IfOk-weaker c.enter.result _ _
    (λ n h. h (image_of c.args.program.now) ∙ primitive_done c.args.program.now c.image-image.result.now names c.args.self.now.stack.items c.args.number c.args.receiver.now c.args.arguments.now c.in_ok-value.field-0 _ (store_of names c.args.self.now.store) (store_of names c.primitive.new.store) c.in-Enter.is c.image-image.ensures.value (c.in_ok-value.ensures.done names))
    c.enter.ensures.rest
