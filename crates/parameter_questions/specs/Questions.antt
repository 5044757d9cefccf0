-- Questions on the code that has a selector or sends it.
use Rattle.std.specs.Prelude.{ℕ, Bool, true, false, not, nat_eq, nat_le, ◌&&◌, ◌||◌, List, slice_get}
use Rattle.std.specs.List.{list_any}
use Rattle.std.specs.Option.{option_map_or}
use Rattle.tree_model.specs.Tree.{SequenceOf, MethodOf}
use Rattle.tree_model.specs.Nodes.{nodes}
use Rattle.tree_model.specs.Measure.{sequence_height}
use Rattle.scope_model.specs.Control.{is_empty}
use Rattle.image_model.specs.Image.{EntryOf, DoItOf}
use Rattle.image_model.specs.Uses.{is_sender}
use Rattle.class_table.specs.declared.record.Place.{Place}
use Rattle.class_table.specs.Slots.{Slots}
use Rattle.class_table.specs.View.{number_image}
use Rattle.rename_model.specs.Conditions.{speaks_of}
use Rattle.command_model.specs.ParameterConditions.{formal_reads}
use Rattle.commands.specs.Views.{asked_by}
use Rattle.code_questions.specs.Places.{passes_at}
use Rattle.parameter_questions.specs.Codes.{means_in_method, means_in_doit, means_in, body_of, passes_other}
use Rattle.parameter_questions.specs.declared.code.Code.{Code}
use Rattle.parameter_questions.specs.declared.question.Fault.{Fault}
use Rattle.parameter_questions.specs.declared.question.Fault.TheVariants as fault

-- whether a method reads its argument of a number, counted from 0, or has none
abbrev pub reads_argument : List (List ℕ) → ℕ → MethodOf ℕ → Bool
reads_argument names k m = not (option_map_or (λ x. is_empty (formal_reads (asked_by names) m x)) (slice_get m.arguments k) false)

-- whether a sequence is higher than 200 nodes
abbrev pub is_high : SequenceOf ℕ → Bool
is_high b = not (nat_le (sequence_height b) 200)

-- whether a sequence sends a selector
abbrev pub sends_in : ℕ → SequenceOf ℕ → Bool
sends_in s b = list_any (λ e. is_sender nat_eq s e.1) (nodes b)

-- whether a fault is looked for in all methods, and not in those of the user alone
abbrev pub is_of_all : Fault → Bool
is_of_all (fault.Read k) = false
is_of_all (fault.Passed k) = true
is_of_all fault.High = false

module _ (s : Slots) (selector : ℕ) where
  -- whether a method that is asked has the fault; whether a do-it has
  abbrev pub in_method : Fault → EntryOf ℕ → Bool
  in_method (fault.Read k) m = nat_eq selector m.tree.selector && reads_argument s.names k m.tree
  in_method (fault.Passed k) m = passes_other (means_in_method s m) selector k m.tree.body
  in_method fault.High m = is_high m.tree.body && speaks_of nat_eq selector m

  abbrev pub in_doit : Fault → DoItOf ℕ → Bool
  in_doit (fault.Read k) d = false
  in_doit (fault.Passed k) d = passes_other (means_in_doit s d) selector k d.body
  in_doit fault.High d = is_high d.body && sends_in selector d.body

  -- whether code, without a selector of its own, has it
  abbrev pub in_code : Fault → Code → Bool
  in_code (fault.Read k) c = false
  in_code (fault.Passed k) c = passes_other (means_in s c) selector k (body_of c)
  in_code fault.High c = is_high (body_of c) && sends_in selector (body_of c)

  -- whether a method is asked and has the fault
  abbrev pub is_method_found : Fault → EntryOf ℕ → Bool
  is_method_found what m = (is_of_all what || not m.kernel) && in_method what m

  -- whether the code at a place does
  abbrev pub is_place_found : Fault → Place → Bool
  is_place_found what p = passes_at (is_method_found what) (in_doit what) s p

  -- whether any code does
  abbrev pub is_found : Fault → Bool
  is_found what = list_any (is_method_found what) (number_image s).methods || list_any (in_doit what) (number_image s).doits
