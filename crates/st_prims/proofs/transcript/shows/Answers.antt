use Rattle.std.proofs.Common.{◌∙◌, ap}
use Rattle.prim_calls.specs.Calls.{call_of}
use Rattle.prim_calls.specs.Replies.{reply_of}
use Rattle.std.specs.Prelude.{Some, length}
use Rattle.run_model.specs.Values.{shown}
use Rattle.run_model.specs.Calls.{answers, argument, as_bytes, demands}
use Rattle.st_prims.proofs.Transcripts.{transcript}
use Rattle.st_prims.proofs.transcript.shows.Goals as goal

pub returns-in_default : goal.returns-in_default
returns-in_default c w =
    let cc = call_of w c.args.call.now in
    ap (reply_of c.args.call.now.heap.now) c.bad_argument-in_default.ensures
    ∙ (λ i. demands cc (c.in_default.ensures w i) (λ t. answers (length t) (Some (shown t)) cc.receiver cc.heap))
    ∙ transcript cc (demands cc (as_bytes (argument cc 0)) (λ t. answers (length t) (Some (shown t)) cc.receiver cc.heap)) c.if-not-is_transcript.ensures

pub returns : goal.returns
returns c w =
    let cc = call_of w c.args.call.now in
    let e = c.shown.ensures ∙ ap shown c.in_ok-share.ensures in
    (λ i. answers (c.len.ensures i) (Some (e i)) (c.in_ok-share-2.ensures i) cc.heap)
    ∙ (λ i. demands cc (c.in-Some.ensures w i) (λ t. answers (length t) (Some (shown t)) cc.receiver cc.heap))
    ∙ transcript cc (demands cc (as_bytes (argument cc 0)) (λ t. answers (length t) (Some (shown t)) cc.receiver cc.heap)) c.if-not-is_transcript.ensures
