use Rattle.std.proofs.Common.{◌∙◌, ap, sym}
use Rattle.run_model.specs.Values.{string_value}
use Rattle.run_model.specs.Calls.{makes_bytes, makes_array}
use Rattle.run_model.specs.SequencePrimitives.{joined}
use Rattle.prim_calls.specs.Calls.{call_of, sequence_of}
use Rattle.sequence_prims.proofs.joining.joined.Goals as goal

pub returns-in_ok-joined_bytes-in-Bytes-Bytes : goal.returns-in_ok-joined_bytes-in-Bytes-Bytes
returns-in_ok-joined_bytes-in-Bytes-Bytes c w =
    let cc = call_of w c.args.call.now in
    c.string.ensures w ∙ ap (makes_bytes cc string_value) c.in_ok-joined_bytes-in-Bytes-Bytes.ensures
    ∙ (λ i. joined cc (sequence_of (sym c.in-Bytes-Bytes.is-0 i)) (sequence_of (sym c.in-Bytes-Bytes.is-1 i)))

pub returns-in_ok-joined_values-in-Values-Values : goal.returns-in_ok-joined_values-in-Values-Values
returns-in_ok-joined_values-in-Values-Values c w =
    let cc = call_of w c.args.call.now in
    c.array.ensures w ∙ ap (makes_array cc) c.in_ok-joined_values-in-Values-Values.ensures
    ∙ (λ i. joined cc (sequence_of (sym c.in-Values-Values.is-0 i)) (sequence_of (sym c.in-Values-Values.is-1 i)))
