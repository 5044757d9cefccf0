use Rattle.std.proofs.Common.{◌∙◌, ap}
use Rattle.prim_calls.specs.Calls.{call_of}
use Rattle.prim_calls.specs.Replies.{reply_of}
use Rattle.run_model.specs.Values.{user_error}
use Rattle.run_model.specs.Calls.{faults, demands}
use Rattle.st_prims.proofs.objects.raises_error.Goals as goal

pub returns-in_ok-text-in-Some : goal.returns-in_ok-text-in-Some
returns-in_ok-text-in-Some c w =
    let cc = call_of w c.args.call.now in
    ap (reply_of c.args.call.now.heap.now) c.fault.ensures ∙ ap (λ t. faults (user_error t)) c.in_ok-text-in-Some.ensures ∙ (λ i. demands cc (c.in-Some.ensures w i) (λ t. faults (user_error t)))

pub returns-in-None : goal.returns-in-None
returns-in-None c w =
    let cc = call_of w c.args.call.now in
    ap (reply_of c.args.call.now.heap.now) c.bad_argument.ensures ∙ (λ i. demands cc (c.in-None.ensures w i) (λ t. faults (user_error t)))
