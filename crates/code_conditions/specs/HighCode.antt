-- Code that is higher than 200 nodes where a variable is read and assigned by messages.
use Rattle.std.specs.Prelude.{ℕ, Bool, false, not, ◌&&◌, Option}
use Rattle.std.specs.Option.{option_map_or}
use Rattle.tree_model.specs.Tree.{MethodOf}
use Rattle.image_model.specs.Image.{EntryOf, DoItOf}
use Rattle.class_table.specs.declared.record.Place.{Place}
use Rattle.class_table.specs.Slots.{Slots}
use Rattle.abstracted_code.specs.declared.abstraction.Abstraction.{Abstraction}
use Rattle.abstracted_code.specs.Abstracted.{method_after, body_after}
use Rattle.code_questions.specs.Places.{passes_at}
use Rattle.parameter_questions.specs.Questions.{is_high}

-- whether there is a tree, and it is
abbrev pub is_tree_high : Option (MethodOf ℕ) → Bool
is_tree_high tree = option_map_or (λ (t : MethodOf ℕ). is_high t.body) tree false

module _ (s : Slots) (a : Abstraction) where
  -- whether a method of the user, or a do-it, means the variable and is high then
  abbrev pub is_method_high : EntryOf ℕ → Bool
  is_method_high m = not m.kernel && is_tree_high (method_after s a m)

  abbrev pub is_doit_high : DoItOf ℕ → Bool
  is_doit_high d = option_map_or is_high (body_after s a d.body) false

  -- whether the code at a place does
  abbrev pub is_place_high : Place → Bool
  is_place_high p = passes_at is_method_high is_doit_high s p
