-- What the changes are by which a command is carried out.
use Rattle.std.specs.Prelude.{◌≡◌, ℕ, List}
use Rattle.std.specs.List.{AllByRecursion}
use Rattle.class_table.specs.declared.record.Place.{Place}
use Rattle.class_table.specs.Slots.{Slots}
use Rattle.class_table.specs.View.{number_image}
use Rattle.class_table.specs.Valid.{IsOrderly}
use Rattle.change_set.specs.declared.change.Change.{Change}
use Rattle.change_set.specs.Changes.{all_applied, CanApplyAll}
use Rattle.wider_slots.specs.Closed.{FitsIn}
use Rattle.command_model.specs.Commands.{CommandOf}
use Rattle.command_model.specs.Effects.{effect}
use Rattle.command_model.specs.Numbers.{number_writing}
use Rattle.commands.specs.Views.{asked_by}
use Rattle.reference_index.specs.Mentioned.{DiffersAtMost}

-- The changes can be applied, each at its turn, and make the image what the command makes of it, over the same table of names; code that mentions other names then stands at one of the places.
pub record IsPlan (s : Slots) (command : CommandOf ℕ) (changes : List Change) (places : List Place) : Type 0 where
  pub can : CanApplyAll s changes
  pub fit : AllByRecursion (FitsIn s) changes
  pub effect : number_image (all_applied s changes) ≡ effect (asked_by s.names) (number_writing s.names) command (number_image s)
  pub names : (all_applied s changes).names ≡ s.names
  pub orderly : IsOrderly (all_applied s changes)
  pub touched : DiffersAtMost s (all_applied s changes) places
