-- What is in the way in what a command brings.
use Rattle.std.specs.Prelude.{ℕ, List, []}
use Rattle.std.specs.List.{flat_map}
use Rattle.class_table.specs.Slots.{Slots}
use Rattle.class_table.specs.View.{number_image}
use Rattle.command_model.specs.Commands.{CommandOf}
use Rattle.command_model.specs.Conditions.{ConditionOf, NoReflection, Shallow}
use Rattle.commands.specs.Views.{asked_by}
use Rattle.refusal_witnesses.specs.NameWitnesses.{reflections_in, added_by}
use Rattle.refusal_witnesses.specs.Witnesses.{WitnessOf}
use Rattle.use_witnesses.specs.Brought.{brought_heights}

module _ (s : Slots) (command : CommandOf ℕ) where
  -- of what is too high that which comes before what stands in the image
  abbrev pub brought_before : ConditionOf ℕ → List (WitnessOf ℕ)
  brought_before Shallow = brought_heights (asked_by s.names) (number_image s) command
  brought_before condition = []

  -- what looks at the program itself in the method that the command adds
  abbrev pub brought_reflections : List (WitnessOf ℕ)
  brought_reflections = flat_map (reflections_in (asked_by s.names).command_words) (added_by command)

  -- of what looks at the program itself that which comes after what stands in the image
  abbrev pub brought_after : ConditionOf ℕ → List (WitnessOf ℕ)
  brought_after NoReflection = brought_reflections
  brought_after condition = []
