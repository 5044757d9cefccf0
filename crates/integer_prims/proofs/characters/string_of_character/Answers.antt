use Rattle.std.proofs.Common.{◌≡◌, ◌∙◌, [], ◌∷◌, sym, ap}
use Rattle.std.specs.Fmt.{signed_decimal}
use Rattle.run_model.specs.Values.{string_value}
use Rattle.run_model.specs.Views.{char_text}
use Rattle.run_model.specs.Calls.{demands, makes_bytes}
use Rattle.prim_calls.specs.Calls.{call_of}
use Rattle.integer_prims.proofs.characters.string_of_character.Goals as goal

pub returns : goal.returns
returns c w =
    let cc = call_of w c.args.call.now in
    c.string.ensures w ∙ ap (makes_bytes cc string_value) c.in_ok-from_slice.ensures ∙ (λ i. demands cc (c.in-Some.ensures i) (λ b. makes_bytes cc string_value (b ∷ [])))
