use Rattle.std.proofs.Common.{◌∙◌, ap}
use Rattle.run_model.specs.Values.{symbol_value}
use Rattle.run_model.specs.Calls.{demands, makes_bytes}
use Rattle.prim_calls.specs.Calls.{call_of}
use Rattle.sequence_prims.proofs.texts.symbol_of_string.Goals as goal

pub returns : goal.returns
returns c w =
    let cc = call_of w c.args.call.now in
    c.symbol.ensures w ∙ ap (makes_bytes cc symbol_value) c.in_ok-share.ensures ∙ (λ i. demands cc (c.in-Some.ensures i) (λ t. makes_bytes cc symbol_value t))
