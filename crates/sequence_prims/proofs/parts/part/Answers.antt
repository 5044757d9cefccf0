use Rattle.std.proofs.Common.{◌∙◌, ap, sym}
use Rattle.std.specs.Int.{w64}
use Rattle.std.proofs.lemmas.Int.{to_z-of_z}
use Rattle.run_model.specs.Values.{string_value}
use Rattle.run_model.specs.Calls.{makes_bytes, makes_array}
use Rattle.run_model.specs.SequencePrimitives.{within, part_of, items_between}
use Rattle.prim_calls.specs.Calls.{call_of, sequence_of}
use Rattle.sequence_prims.proofs.parts.part.Goals as goal

pub returns-in_ok-from_slice-in-Some : goal.returns-in_ok-from_slice-in-Some
returns-in_ok-from_slice-in-Some c w =
    let cc = call_of w c.args.call.now in
    c.string.ensures w ∙ ap (makes_bytes cc string_value) c.in_ok-from_slice-in-Some.ensures
    ∙ ap (λ o. within o (λ u. makes_bytes cc string_value u)) (c.in-Some.ensures ∙ (λ i. items_between c.in-Bytes.bytes.now (to_z-of_z w64 c.args.first c.ranges.first i) (to_z-of_z w64 c.args.last c.ranges.last i)))
    ∙ ap (λ q. part_of cc (sequence_of q) c.args.first c.args.last) (sym c.in-Bytes.is)

pub returns-in_ok-from_slice-in-Some-values_between : goal.returns-in_ok-from_slice-in-Some-values_between
returns-in_ok-from_slice-in-Some-values_between c w =
    let cc = call_of w c.args.call.now in
    c.array.ensures w ∙ ap (makes_array cc) c.in_ok-from_slice-in-Some-values_between.ensures
    ∙ ap (λ o. within o (λ u. makes_array cc u)) (c.in-Some-values_between.ensures ∙ (λ i. items_between c.in-Values.values.now (to_z-of_z w64 c.args.first c.ranges.first i) (to_z-of_z w64 c.args.last c.ranges.last i)))
    ∙ ap (λ q. part_of cc (sequence_of q) c.args.first c.args.last) (sym c.in-Values.is)
