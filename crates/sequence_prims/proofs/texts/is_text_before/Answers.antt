use Rattle.std.proofs.Common.{◌∙◌, ap}
use Rattle.run_model.specs.Calls.{demands, answers_truth}
use Rattle.run_model.specs.SequencePrimitives.{is_before}
use Rattle.prim_calls.specs.Calls.{call_of}
use Rattle.prim_calls.specs.Replies.{reply_of}
use Rattle.sequence_prims.proofs.texts.is_text_before.Goals as goal

pub returns-in_default-bytes : goal.returns-in_default-bytes
returns-in_default-bytes c w =
    let cc = call_of w c.args.call.now in
    ap (reply_of c.args.call.now.heap.now) c.bad_argument-in_default-bytes.ensures ∙ (λ i. demands cc (c.in-Some.ensures i) (λ s. demands cc (c.in_default-bytes.ensures w i) (λ t. answers_truth cc (is_before s t))))

pub returns : goal.returns
returns c w =
    let cc = call_of w c.args.call.now in
    c.truth.ensures w ∙ ap (answers_truth cc) (c.is_before.ensures ∙ (λ i. is_before (c.as_slice.ensures i) (c.as_slice-2.ensures i)))
    ∙ (λ i. demands cc (c.in-Some.ensures i) (λ s. demands cc (c.in-Some-bytes.ensures w i) (λ t. answers_truth cc (is_before s t))))
