use Rattle.std.proofs.Common.{◌≡◌, ◌∙◌, FitsSigned, ap, rules}
use Rattle.std.specs.Int.{w64}
use Rattle.std.specs.Fmt.{signed_decimal}
use Rattle.std.proofs.lemmas.Int.{to_z-of_z}
use Rattle.run_model.specs.Values.{string_value}
use Rattle.run_model.specs.Calls.{demands, makes_bytes}
use Rattle.prim_calls.specs.Calls.{call_of}
use Rattle.integer_prims.proofs.characters.prints_integer.Goals as goal

pub returns : goal.returns
returns c w =
    let cc = call_of w c.args.call.now in
    let f : FitsSigned w64 c.in-Some.number = search rules in
    let digits = c.in_ok-from_slice.ensures ∙ c.as_bytes.ensures.value ∙ c.in_ok-digits.ensures.ok ∙ ap signed_decimal (to_z-of_z w64 c.in-Some.number f) in
    c.string.ensures w ∙ ap (makes_bytes cc string_value) digits ∙ (λ i. demands cc (c.in-Some.ensures i) (λ x. makes_bytes cc string_value (signed_decimal x)))
