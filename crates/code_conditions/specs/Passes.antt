-- Which conditions pass of what a command names in a method of the user.
use Rattle.std.specs.Prelude.{ℕ, Bool, false}
use Rattle.image_model.specs.Image.{EntryOf}
use Rattle.class_table.specs.Slots.{Slots}
use Rattle.class_table.specs.View.{number_image}
use Rattle.command_model.specs.Parts.{Part}
use Rattle.command_model.specs.Places.{SendOf}
use Rattle.command_model.specs.Temporaries.{LetOf}
use Rattle.command_model.specs.PartConditions.{is_part, has_no_return, assigns_no_outer, are_temporaries_steady, is_value_unused, is_first_evaluated}
use Rattle.command_model.specs.InlineConditions.{is_inlinable, are_actuals_plain, captures_nothing, makes_no_control}
use Rattle.command_model.specs.LetConditions.{is_let_form, is_value_kept, is_value_no_control}
use Rattle.commands.specs.Views.{asked_by}
use Rattle.commands.specs.declared.condition.Condition.{Condition}
use Rattle.commands.specs.declared.condition.Condition.TheVariants as condition

module _ (s : Slots) where
  -- of a part of a method
  abbrev pub part_passes : Condition → EntryOf ℕ → Part → Bool
  part_passes (condition.PartIs p) m part = is_part (asked_by s.names) m.tree part
  part_passes (condition.NoReturn p) m part = has_no_return m.tree part
  part_passes (condition.AssignsNoOuter p) m part = assigns_no_outer (asked_by s.names) m.tree part
  part_passes (condition.TempsSteady p) m part = are_temporaries_steady (asked_by s.names) m.tree part
  part_passes (condition.ValueUnused p) m part = is_value_unused m.tree part
  part_passes (condition.FirstEvaluated p) m part = is_first_evaluated (asked_by s.names) (number_image s) m part
  part_passes other m part = false

  -- of a message in a method of a class, and the method that it finds
  abbrev pub target_passes : (c : ℕ) → Condition → EntryOf ℕ → SendOf ℕ → EntryOf ℕ → Bool
  target_passes c (condition.Inlinable n) m e target = is_inlinable (asked_by s.names) (number_image s) c m e target
  target_passes c (condition.PlainActuals p) m e target = are_actuals_plain (asked_by s.names) (number_image s) m e target
  target_passes c (condition.NoCapture n spot) m e target = captures_nothing (asked_by s.names) (number_image s) m e target
  target_passes c (condition.NoNewControl n spot) m e target = makes_no_control (asked_by s.names) (number_image s) m e target
  target_passes c other m e target = false

  -- of the assignment to a temporary
  abbrev pub let_passes : (x : ℕ) → Condition → EntryOf ℕ → LetOf ℕ → Bool
  let_passes x (condition.LetForm n y) m e = is_let_form (asked_by s.names) (number_image s) m x e
  let_passes x (condition.NoCapture n spot) m e = is_value_kept (asked_by s.names) (number_image s) m x e
  let_passes x (condition.NoNewControl n spot) m e = is_value_no_control (asked_by s.names) (number_image s) m x e
  let_passes x other m e = false
