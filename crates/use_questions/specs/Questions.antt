-- Questions on what names mean in the code of an image.
use Rattle.std.specs.Prelude.{ℕ, List, [], Bool, true, false, not, nat_eq, ◌&&◌, ◌||◌}
use Rattle.std.specs.List.{list_any}
use Rattle.tree_model.specs.Tree.{SequenceOf}
use Rattle.scope_model.specs.NameTests.{is_pseudo_in}
use Rattle.scope_model.specs.FreeNames.{free_in_statements}
use Rattle.image_model.specs.Image.{EntryOf, DoItOf, ImageOf}
use Rattle.image_model.specs.Words.{number_words}
use Rattle.image_model.specs.Means.{MeaningOf, means, means_in_doit}
use Rattle.image_model.specs.Uses.{is_variable, is_that_class}
use Rattle.rename_model.specs.Conditions.{is_method_below}
use Rattle.command_model.specs.Hierarchy.{is_method_of}
use Rattle.class_table.specs.declared.record.Place.{Place}
use Rattle.class_table.specs.Slots.{Slots}
use Rattle.class_table.specs.View.{number_image}
use Rattle.name_meanings.specs.Meanings.{kind_of}
use Rattle.code_questions.specs.Places.{passes_at}
use Rattle.use_questions.specs.declared.question.Meant.{Meant}
use Rattle.use_questions.specs.declared.question.Meant.TheVariants as meant
use Rattle.use_questions.specs.declared.question.Question.{Question}
use Rattle.use_questions.specs.declared.question.Whose.{Whose}
use Rattle.use_questions.specs.declared.question.Whose.TheVariants as whose

-- the name that means what is asked for
abbrev pub name_of : Meant → ℕ
name_of (meant.Class c) = c
name_of (meant.Variable kind c x) = x

-- whether a meaning is what is asked for
abbrev pub is_meant : Meant → MeaningOf ℕ → Bool
is_meant (meant.Class c) meaning = is_that_class nat_eq c meaning
is_meant (meant.Variable kind c x) meaning = is_variable nat_eq (kind_of kind) c meaning

-- whether a method is one of those that are asked
abbrev pub is_asked : ImageOf ℕ → Whose → EntryOf ℕ → Bool
is_asked i whose.Everyone m = true
is_asked i (whose.Outside c) m = not (is_method_of nat_eq c m)
is_asked i (whose.Of c) m = is_method_of nat_eq c m
is_asked i (whose.Below c) m = is_method_below nat_eq i.classes c m
is_asked i (whose.BelowBut c d) m = is_method_below nat_eq i.classes c m && not (is_method_below nat_eq i.classes d m)

-- whether do-its are asked
abbrev pub are_doits_asked : Whose → Bool
are_doits_asked whose.Everyone = true
are_doits_asked (whose.Outside c) = true
are_doits_asked (whose.Of c) = false
are_doits_asked (whose.Below c) = false
are_doits_asked (whose.BelowBut c d) = false

-- whether a name in a sequence means what is asked for, where outside all blocks the name has a meaning: no block declares it there, and the meaning is the one
abbrev pub in_code : List (List ℕ) → Meant → MeaningOf ℕ → SequenceOf ℕ → Bool
in_code names what outside b = is_meant what outside && list_any (nat_eq (name_of what)) (free_in_statements nat_eq (is_pseudo_in names) b.statements)

-- whether one in a method of an image does, and whether one in a do-it does
abbrev pub in_method : Slots → Meant → EntryOf ℕ → Bool
in_method s what m = in_code s.names what (means (number_words s.names) (number_image s) m [] (name_of what)) m.tree.body

abbrev pub in_doit : Slots → Meant → DoItOf ℕ → Bool
in_doit s what d = in_code s.names what (means_in_doit (number_words s.names) (number_image s) d [] (name_of what)) d.body

module _ (s : Slots) (q : Question) where
  -- whether a method is asked, and answers the question; whether a do-it does
  abbrev pub is_method_found : EntryOf ℕ → Bool
  is_method_found m = is_asked (number_image s) q.whose m && in_method s q.what m

  abbrev pub is_doit_found : DoItOf ℕ → Bool
  is_doit_found d = are_doits_asked q.whose && in_doit s q.what d

  -- whether the code at a place does
  abbrev pub is_place_found : Place → Bool
  is_place_found p = passes_at is_method_found is_doit_found s p

  -- whether any method or do-it does
  abbrev pub is_found : Bool
  is_found = list_any is_method_found (number_image s).methods || list_any is_doit_found (number_image s).doits
