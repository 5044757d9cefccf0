-- Where a temporary is read, seen from its assignment.
use Rattle.std.specs.Prelude.{ℕ, suc, Bool, false, not, ◌&&◌, nat_lt, nat_eq, List, [], ◌∷◌, length, slice_get}
use Rattle.std.specs.List.{list_any, list_all}
use Rattle.std.specs.Option.{option_map_or}
use Rattle.scope_model.specs.FreeNames.{free_names}
use Rattle.scope_model.specs.NameTests.{is_pseudo_in}
use Rattle.image_model.specs.Image.{EntryOf}
use Rattle.image_model.specs.Means.{MeaningOf, means}
use Rattle.image_model.specs.Words.{number_words}
use Rattle.tree_model.specs.Tree.{TreeOf}
use Rattle.class_table.specs.Slots.{Slots}
use Rattle.class_table.specs.View.{number_image}
use Rattle.command_model.specs.Asked.{AskedOf, no_parts}
use Rattle.command_model.specs.Numbers.{number_asked}
use Rattle.command_model.specs.Parts.{Expression}
use Rattle.command_model.specs.Places.{innermost}
use Rattle.command_model.specs.Plain.{is_plain}
use Rattle.command_model.specs.PartConditions.{is_first_evaluated}
use Rattle.command_model.specs.LetConditions.{let_path}
use Rattle.command_model.specs.SameMethods.{same_meaning}
use Rattle.command_model.specs.Temporaries.{LetOf, only}
use Rattle.let_code.specs.Lets.{let_as}
use Rattle.let_questions.specs.declared.question.LetCode.{LetCode}
use Rattle.part_questions.specs.Codes.{entry_of}

-- whether a place in the sequence stands in a statement of a lower number than the assignment, or in the next statement
abbrev pub is_before : LetOf ℕ → List ℕ → Bool
is_before e path = option_map_or (λ k. nat_lt k e.number) (slice_get path (length e.sequence)) false

abbrev pub is_in_next : LetOf ℕ → List ℕ → Bool
is_in_next e path = option_map_or (nat_eq (suc e.number)) (slice_get path (length e.sequence)) false

module _ (s : Slots) (it : LetCode) where
  -- what a name means at a place of the method
  abbrev pub meaning : List ℕ → ℕ → MeaningOf ℕ
  meaning path n = means (number_words s.names) (number_image s) (entry_of s it.code) path n

  -- whether a name means the same at a read as at the assignment
  abbrev pub is_name_kept : List ℕ → ℕ → Bool
  is_name_kept read n = same_meaning nat_eq (meaning (let_path (let_as it.assignment.now)) n) (meaning read n)

  -- whether each of these does
  abbrev pub are_names_kept : List ℕ → List ℕ → Bool
  are_names_kept names read = list_all (is_name_kept read) names

  module _ (self_name : ℕ) where
    -- whether the value is plain, and none of these reads stands before the assignment
    abbrev pub is_plain_let : List (List ℕ) → Bool
    is_plain_let reads =
        is_plain (number_asked s.names self_name no_parts) (number_image s) (entry_of s it.code) (let_path (let_as it.assignment.now)) it.assignment.now.value.now
        && not (list_any (is_before (let_as it.assignment.now)) reads)

    -- whether a read stands in the next statement, which is its innermost one and evaluates nothing but plain expressions before it
    abbrev pub is_let_for : List ℕ → Bool
    is_let_for read =
        (nat_eq (innermost (entry_of s it.code).tree read) (length it.assignment.now.sequence) && is_in_next (let_as it.assignment.now) read)
        && is_first_evaluated (number_asked s.names self_name no_parts) (number_image s) (entry_of s it.code) (Expression read)

    -- whether there is but one read, which does
    abbrev pub is_let_for_one : List (List ℕ) → Bool
    is_let_for_one reads = option_map_or is_let_for (only reads) false
