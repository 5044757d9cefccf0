-- What is passed for the arguments of a method.
use Rattle.std.specs.Prelude.{ℕ, Bool, true, false, not, ◌&&◌, ◌||◌, List, [], ◌∷◌, nat_eq}
use Rattle.std.specs.List.{list_any}
use Rattle.tree_model.specs.Tree.{TreeOf, var, TreesOf, no_trees, more_trees, MethodOf}
use Rattle.tree_model.specs.Nodes.{Placed}
use Rattle.scope_model.specs.NameTests.{is_pseudo_in, form_in}
use Rattle.scope_model.specs.Scope.{local_in}
use Rattle.st_tree.specs.View.{method_of}
use Rattle.image_model.specs.Means.{MeaningOf, temporary, means}
use Rattle.image_model.specs.Words.{number_words}
use Rattle.class_table.specs.Slots.{Slots}
use Rattle.class_table.specs.View.{number_image}
use Rattle.command_model.specs.Asked.{no_parts}
use Rattle.command_model.specs.Numbers.{number_asked}
use Rattle.command_model.specs.ParameterConditions.{formal_reads}
use Rattle.command_model.specs.PartConditions.{is_assigned_in_the_open}
use Rattle.command_model.specs.Places.{is_formal, stands_in_closure}
use Rattle.command_model.specs.Plain.{is_plain}
use Rattle.commands.specs.Views.{asked_by}
use Rattle.part_questions.specs.Codes.{entry_of}
use Rattle.inline_questions.specs.declared.code.Call.{Call}

-- whether a node of a method reads an argument of it in a closure
abbrev pub is_enclosed : List (List ℕ) → MethodOf ℕ → ℕ → Placed ℕ → Bool
is_enclosed names m x (path, var n) =
    (nat_eq x n && is_formal (local_in nat_eq (is_pseudo_in names) m path n)) && stands_in_closure (form_in names) m 1 path
is_enclosed names m x (path, t) = false

-- whether so much is passed, and each that is passed for a name passes a test
abbrev pub all_passed : {N : Type 0} → (N → TreeOf N → Bool) → List N → TreesOf N → Bool
all_passed test [] ts = true
all_passed test (x ∷ xs) no_trees = false
all_passed test (x ∷ xs) (more_trees t ts) = test x t && all_passed test xs ts

module _ (s : Slots) (c : Call) where
  -- whether a name with a meaning is a temporary that no closure assigns, for an argument that no closure reads
  abbrev pub is_open_by : ℕ → ℕ → MeaningOf ℕ → Bool
  is_open_by formal n (temporary scope) =
      is_assigned_in_the_open (asked_by s.names) (method_of c.method.tree.now) c.sent.path.now scope n
      && not (list_any (stands_in_closure (form_in s.names) (method_of c.target.code.tree.now) 1) (formal_reads (asked_by s.names) (method_of c.target.code.tree.now) formal))
  is_open_by formal n meaning = false

  -- whether what is passed for an argument is such a temporary
  abbrev pub is_open_temporary : ℕ → TreeOf ℕ → Bool
  is_open_temporary formal (var n) = is_open_by formal n (means (number_words s.names) (number_image s) (entry_of s c.method) c.sent.path.now n)
  is_open_temporary formal t = false

  -- whether it is plain, or is such a temporary
  abbrev pub is_actual_plain : (self_name : ℕ) → ℕ → TreeOf ℕ → Bool
  is_actual_plain self_name formal t = is_plain (number_asked s.names self_name no_parts) (number_image s) (entry_of s c.method) c.sent.path.now t || is_open_temporary formal t
