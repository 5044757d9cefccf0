use Rattle.std.proofs.Common.{◌∙◌, ap, sym}
use Rattle.run_model.specs.Calls.{makes_array}
use Rattle.run_model.specs.ObjectPrimitives.{copy_of}
use Rattle.st_meaning.specs.ValueView.{value_of}
use Rattle.prim_calls.specs.Calls.{call_of}
use Rattle.st_prims.proofs.objects.copies.Goals as goal

pub returns-in_ok-values-in-Array : goal.returns-in_ok-values-in-Array
returns-in_ok-values-in-Array c w =
    let cc = call_of w c.args.call.now in
    c.array.ensures w ∙ ap (makes_array cc) (c.in_ok-values-in-Array.ensures ∙ c.elements.ensures)
    ∙ ap (copy_of cc) (sym (ap value_of c.in-Array.is) ∙ c.receiver.view_is)
