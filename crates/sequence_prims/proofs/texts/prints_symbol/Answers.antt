use Rattle.std.proofs.Common.{◌∙◌, ap}
use Rattle.run_model.specs.Values.{string_value}
use Rattle.run_model.specs.Views.{symbol_text}
use Rattle.run_model.specs.Calls.{demands, makes_bytes}
use Rattle.prim_calls.specs.Calls.{call_of}
use Rattle.sequence_prims.proofs.texts.prints_symbol.Goals as goal

pub returns : goal.returns
returns c w =
    let cc = call_of w c.args.call.now in
    c.string.ensures w ∙ ap (makes_bytes cc string_value) (c.in_ok-marked.ensures ∙ ap symbol_text c.as_slice.ensures) ∙ (λ i. demands cc (c.in-Some.ensures i) (λ t. makes_bytes cc string_value (symbol_text t)))
