use Rattle.prim_calls.specs.Calls.{call_of}
use Rattle.run_model.specs.Calls.{demands}
use Rattle.run_model.specs.ObjectPrimitives.{instance_of, gives_instance}
use Rattle.sequence_prims.proofs.Steps.{replied}
use Rattle.st_prims.proofs.objects.gives_instance.Goals as goal

pub returns-in-Some : goal.returns-in-Some
returns-in-Some c =
    replied c.args.call.now.heap.now (λ w. instance_of (call_of w c.args.call.now) c.in-Some.class.now) (λ w. gives_instance (call_of w c.args.call.now)) c.instance_of.result
    (λ w. λ i. demands (call_of w c.args.call.now) (c.in-Some.ensures i) (λ d. instance_of (call_of w c.args.call.now) d))
    c.instance_of.ensures
