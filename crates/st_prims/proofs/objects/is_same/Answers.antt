use Rattle.std.proofs.Common.{◌∙◌, ap}
use Rattle.prim_calls.specs.Calls.{call_of}
use Rattle.run_model.specs.Calls.{answers_truth}
use Rattle.run_model.specs.Views.{same_value}
use Rattle.st_prims.proofs.objects.is_same.Goals as goal

pub returns : goal.returns
returns c w =
    let cc = call_of w c.args.call.now in
    c.truth.ensures w ∙ ap (answers_truth cc) (c.same.ensures ∙ ap (same_value c.args.call.now.receiver.now) (c.in_ok-argument.ensures w))
