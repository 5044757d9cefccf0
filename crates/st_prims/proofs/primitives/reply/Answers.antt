use Rattle.std.proofs.Common.{◌∙◌, Some, None, ap}
use Rattle.prim_calls.specs.Calls.{call_of}
use Rattle.prim_calls.specs.Replies.{reply_of}
use Rattle.st_prims.specs.Closures.{world_of}
use Rattle.st_prims.proofs.Doing.{mapped, primitive_is}
use Rattle.st_prims.proofs.primitives.reply.Goals as goal

pub returns-in-Some : goal.returns-in-Some
returns-in-Some c =
    let cc = call_of (world_of c.args.closures.now c.args.image.now) c.args.call.now in
    mapped c.reply_of_primitive.result (λ r p. p ∙ primitive_is cc (Some c.in-Some.primitive) c.in-Some.ensures) c.reply_of_primitive.ensures

pub returns-in-None : goal.returns-in-None
returns-in-None c =
    let cc = call_of (world_of c.args.closures.now c.args.image.now) c.args.call.now in
    ap (reply_of c.args.call.now.heap.now) c.bad_argument.ensures ∙ primitive_is cc None c.in-None.ensures
