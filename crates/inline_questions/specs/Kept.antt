-- Names of the method that a message finds, where the message stands.
use Rattle.std.specs.Prelude.{ℕ, Bool, true, not, ◌||◌, List, nat_eq}
use Rattle.std.specs.List.{list_any}
use Rattle.std.specs.Option.{option_map_or}
use Rattle.tree_model.specs.Tree.{trees_of}
use Rattle.tree_model.specs.Nodes.{Placed}
use Rattle.scope_model.specs.FreeNames.{free_names}
use Rattle.scope_model.specs.NameTests.{is_pseudo_in}
use Rattle.scope_model.specs.Scope.{local_in}
use Rattle.st_tree.specs.View.{method_of}
use Rattle.image_model.specs.Means.{means}
use Rattle.image_model.specs.Uses.{name_used}
use Rattle.image_model.specs.Words.{number_words}
use Rattle.class_table.specs.Slots.{Slots}
use Rattle.class_table.specs.View.{number_image}
use Rattle.command_model.specs.Inlined.{passed_for}
use Rattle.command_model.specs.Places.{is_of_block}
use Rattle.command_model.specs.SameMethods.{same_meaning}
use Rattle.commands.specs.Views.{asked_by}
use Rattle.part_questions.specs.Codes.{entry_of}
use Rattle.inline_questions.specs.declared.code.Call.{Call}
use Rattle.inline_questions.specs.Codes.{entry_in}

module _ (s : Slots) (c : Call) where
  -- whether a name means at a place of the target what it means where the message stands
  abbrev pub means_same : List ℕ → ℕ → Bool
  means_same path n =
      same_meaning nat_eq (means (number_words s.names) (number_image s) (entry_in s c.target) path n)
      (means (number_words s.names) (number_image s) (entry_of s c.method) c.sent.path.now n)

  -- whether a block round a place of the target declares a name
  abbrev is_of_block_at : List ℕ → ℕ → Bool
  is_of_block_at path n = is_of_block (local_in nat_eq (is_pseudo_in s.names) (method_of c.target.code.tree.now) path n)

  -- whether a name at a place of the target is kept, and that of a node
  abbrev pub is_name_kept : List ℕ → ℕ → Bool
  is_name_kept path n =
      option_map_or (λ t. not (list_any (is_of_block_at path) (free_names nat_eq (is_pseudo_in s.names) t)))
      (passed_for (asked_by s.names) (method_of c.target.code.tree.now) (trees_of c.sent.arguments.now) path n)
      (is_of_block_at path n || means_same path n)

  abbrev pub is_kept : Placed ℕ → Bool
  is_kept x = option_map_or (is_name_kept x.0) (name_used x.1) true
