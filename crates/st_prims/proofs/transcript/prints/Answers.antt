use Rattle.std.proofs.Common.{◌∙◌, ap}
use Rattle.prim_calls.specs.Calls.{call_of}
use Rattle.std.specs.Prelude.{Some}
use Rattle.run_model.specs.Values.{printed}
use Rattle.run_model.specs.Views.{view_of}
use Rattle.run_model.specs.Calls.{answers, argument}
use Rattle.run_model.specs.ObjectPrimitives.{printed_length}
use Rattle.st_prims.proofs.Transcripts.{transcript}
use Rattle.st_prims.proofs.transcript.prints.Goals as goal

pub returns : goal.returns
returns c w =
    let cc = call_of w c.args.call.now in
    let a = c.in_ok-argument.ensures w in
    let n = c.printed_length.ensures ∙ ap (printed_length cc.heap) a in
    let e = c.printed.ensures ∙ ap printed (c.in_ok-view_of.ensures ∙ ap (view_of cc.heap) a) in
    (λ i. answers (n i) (Some (e i)) (c.in_ok-share.ensures i) cc.heap)
    ∙ transcript cc (answers (printed_length cc.heap (argument cc 0)) (Some (printed (view_of cc.heap (argument cc 0)))) cc.receiver cc.heap) c.if-not-is_transcript.ensures
