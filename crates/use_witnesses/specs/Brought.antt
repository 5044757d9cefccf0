-- What is in the way in a method that a command brings, and what is in the way beside it.
use Rattle.std.specs.Prelude.{List, [], not}
use Rattle.std.specs.Option.{option_map_or}
use Rattle.tree_model.specs.Normal.{normal}
use Rattle.image_model.specs.Image.{EntryOf, ImageOf}
use Rattle.command_model.specs.Asked.{AskedOf}
use Rattle.command_model.specs.CodeEffects.{part_at}
use Rattle.command_model.specs.Commands.{CommandOf, ExtractMethod}
use Rattle.command_model.specs.Extracted.{call_of, method_of, part_replaced}
use Rattle.command_model.specs.MethodEffects.{new_method}
use Rattle.command_model.specs.ParameterConditions.{is_low}
use Rattle.command_model.specs.Parts.{Part}
use Rattle.refusal_witnesses.specs.ParameterWitnesses.{heights_after}
use Rattle.refusal_witnesses.specs.Witnesses.{InMethod, WitnessOf, APart, AWhole, TwoMeanings, a_method, where_true}

-- a witness as one in a method
abbrev pub as_in : {N : Type 0} → EntryOf N → WitnessOf N → WitnessOf N
as_in m (APart owner part) = APart (InMethod m) part
as_in m (AWhole owner) = AWhole (InMethod m)
as_in m (TwoMeanings owner path n one other) = TwoMeanings (InMethod m) path n one other
as_in m witness = witness

module _ {N : Type 0} (a : AskedOf N) (i : ImageOf N) where
  -- the method that a part becomes, if it is too high
  abbrev pub brought_heights : CommandOf N → List (WitnessOf N)
  brought_heights (ExtractMethod c meta s from to t) =
      option_map_or (λ (e : EntryOf N × Part). where_true (not (is_low (method_of a t e.0.tree e.1).body)) (a_method (new_method c meta e.0.protocol [] (method_of a t e.0.tree e.1))))
      (part_at a i c meta s from to) []
  brought_heights command = []

  -- the code of the image that the command changes and that is too high afterwards
  abbrev pub heights_there : CommandOf N → List (WitnessOf N)
  heights_there (ExtractMethod c meta s from to t) =
      option_map_or (λ (e : EntryOf N × Part). where_true (not (is_low (normal (part_replaced e.0.tree e.1 (call_of a t e.0.tree e.1))).body)) (a_method e.0)) (part_at a i c meta s from to) []
  heights_there command = heights_after a i command
