use Rattle.std.proofs.Common.{◌∙◌, ap}
use Rattle.run_model.specs.Calls.{demands}
use Rattle.run_model.specs.SequencePrimitives.{joined, joins}
use Rattle.prim_calls.specs.Calls.{call_of}
use Rattle.prim_calls.specs.Replies.{reply_of}
use Rattle.sequence_prims.proofs.Steps.{replied}
use Rattle.sequence_prims.proofs.joining.joins.Goals as goal

pub returns-in_default-items : goal.returns-in_default-items
returns-in_default-items c w =
    let cc = call_of w c.args.call.now in
    ap (reply_of c.args.call.now.heap.now) c.bad_argument-in_default-items.ensures ∙ (λ i. demands cc (c.in-Some.ensures i) (λ q. demands cc (c.in_default-items.ensures w i) (λ r. joined cc q r)))

pub returns : goal.returns
returns c =
    replied c.args.call.now.heap.now _ (λ w. joins (call_of w c.args.call.now)) c.joined.result
    (λ w. λ i. demands (call_of w c.args.call.now) (c.in-Some.ensures i) (λ q. demands (call_of w c.args.call.now) (c.in-Some-items.ensures w i) (λ r. joined (call_of w c.args.call.now) q r)))
    c.joined.ensures
