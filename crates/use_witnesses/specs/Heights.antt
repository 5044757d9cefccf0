-- Which code is looked at and too high, from the slots.
use Rattle.std.specs.Prelude.{ℕ, List, ◌++◌, Bool, not, ◌&&◌, Option, option_map}
use Rattle.std.specs.List.{flat_map, enumerate_from}
use Rattle.tree_model.specs.Normal.{normal}
use Rattle.tree_model.specs.Tree.{MethodOf}
use Rattle.image_model.specs.Image.{EntryOf, DoItOf}
use Rattle.image_model.specs.Nodes.{in_doit}
use Rattle.class_table.specs.declared.record.Place.{Place}
use Rattle.class_table.specs.declared.record.Place.TheVariants as place
use Rattle.class_table.specs.Slots.{Slots}
use Rattle.class_table.specs.View.{number_image}
use Rattle.command_model.specs.Extracted.{call_of, method_of, part_replaced}
use Rattle.command_model.specs.Parts.{Part}
use Rattle.commands.specs.Views.{asked_by}
use Rattle.commands.specs.declared.command.MethodPart.{MethodPart}
use Rattle.code_conditions.specs.HighCode.{is_doit_high, is_method_high}
use Rattle.code_conditions.specs.Trees.{users_part}
use Rattle.code_questions.specs.Places.{passes_at}
use Rattle.parameter_questions.specs.declared.question.Fault.TheVariants as fault
use Rattle.parameter_questions.specs.Questions.{is_high, is_method_found}
use Rattle.parameter_questions.specs.Questions as questions
use Rattle.refusal_witnesses.specs.Witnesses.{AtPlace, WitnessOf, AWhole, a_method, where_true}
use Rattle.witness_lists.specs.declared.witness.Owner.{Owner}
use Rattle.witness_lists.specs.declared.witness.Owner.TheVariants as owner
use Rattle.witness_lists.specs.Views.{owner_of}
use Rattle.use_witnesses.specs.declared.heights.Looked.{Looked}
use Rattle.use_witnesses.specs.declared.heights.Looked.TheVariants as looked

-- the code at a place
abbrev pub owner_at : Place → Owner
owner_at (place.Method k) = owner.Method k
owner_at (place.DoIt k) = owner.DoIt k

module _ (s : Slots) where
  -- whether a method is looked at and too high; whether a do-it is
  abbrev pub method_high : Looked → EntryOf ℕ → Bool
  method_high looked.All m = not m.kernel && is_high m.tree.body
  method_high (looked.Speaking n) m = is_method_found s n fault.High m
  method_high (looked.Abstracted a) m = is_method_high s a m

  abbrev pub doit_high : Looked → DoItOf ℕ → Bool
  doit_high looked.All d = is_high d.body
  doit_high (looked.Speaking n) d = questions.in_doit s n fault.High d
  doit_high (looked.Abstracted a) d = is_doit_high s a d

  -- whether the code at a place is
  abbrev pub is_high_at : Looked → Place → Bool
  is_high_at l p = passes_at (method_high l) (doit_high l) s p

  abbrev pub is_any_high : Place → Bool
  is_any_high p = is_high_at looked.All p

  -- the method or do-it at a place, if it is
  abbrev pub high_at : Looked → Place → List (WitnessOf ℕ)
  high_at l p = where_true (is_high_at l p) (AWhole (owner_of s (owner_at p)))

  -- all methods, all do-its, and both
  abbrev pub high_methods : Looked → List (WitnessOf ℕ)
  high_methods l = flat_map (λ (m : EntryOf ℕ). where_true (method_high l m) (a_method m)) (number_image s).methods

  abbrev pub high_doits : Looked → List (WitnessOf ℕ)
  high_doits l = flat_map (λ (e : ℕ × DoItOf ℕ). where_true (doit_high l e.1) (AWhole (AtPlace (in_doit e.0)))) (enumerate_from 0 (number_image s).doits)

  abbrev pub high_there : Looked → List (WitnessOf ℕ)
  high_there l = high_methods l ++ high_doits l

module _ (s : Slots) (p : MethodPart) (t : ℕ) where
  -- the method that a part becomes, and the one that it is taken from
  abbrev pub methods_made : Option (MethodOf ℕ)
  methods_made = option_map (λ (e : EntryOf ℕ × Part). method_of (asked_by s.names) t e.0.tree e.1) (users_part s p)

  abbrev pub senders_made : Option (MethodOf ℕ)
  senders_made = option_map (λ (e : EntryOf ℕ × Part). normal (part_replaced e.0.tree e.1 (call_of (asked_by s.names) t e.0.tree e.1))) (users_part s p)
