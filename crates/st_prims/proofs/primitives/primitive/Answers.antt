use Rattle.std.proofs.Common.{◌∙◌, ap}
use Rattle.run_model.specs.Acts.{acts}
use Rattle.run_model.specs.Eval.{follows}
use Rattle.run_model.specs.Primitives.{primitive}
use Rattle.class_table.specs.View.{image_of}
use Rattle.st_meaning.specs.StoreView.{store_of}
use Rattle.st_prims.specs.Closures.{arity_of}
use Rattle.st_prims.proofs.Doing.{mapped, does, same_arity}
use Rattle.st_prims.proofs.primitives.primitive.Goals as goal

pub returns-clause-done : goal.returns-clause-done
returns-clause-done c =
    mapped c.perform.result
    (λ r p. λ names go.
    let s = store_of names c.args.store.now in
    let classes = (image_of c.args.image.now).classes in
    p names go c.args.arguments.now
    ∙ ap (λ z. follows acts go c.args.arguments.now z s) c.in_ok-reply.ensures
    ∙ ap (λ cs. follows acts go c.args.arguments.now (primitive (record { number = c.args.number; receiver = c.args.receiver.now; arguments = c.args.arguments.now; heap = c.args.store.now.heap; arity = arity_of cs; classes = classes })) s) c.deref.ensures.value
    ∙ (λ i. follows acts go c.args.arguments.now (primitive (record { number = c.args.number; receiver = c.args.receiver.now; arguments = c.args.arguments.now; heap = c.args.store.now.heap; arity = λ k. same_arity names c.args.store.now.closures.items k i; classes = classes })) s)
    ∙ does (image_of c.args.image.now) go c.args.number c.args.receiver.now c.args.arguments.now s)
    c.perform.ensures.done
