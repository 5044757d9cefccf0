-- Which nodes of the code of an image do something.
use Rattle.std.specs.Prelude.{ℕ, List, [], ◌++◌, Bool, false, not, ◌&&◌, nat_eq, if◌then◌else◌, slice_get}
use Rattle.std.specs.List.{flat_map, enumerate_from}
use Rattle.std.specs.Option.{option_map_or}
use Rattle.tree_model.specs.Nodes.{Placed}
use Rattle.image_model.specs.Image.{EntryOf, DoItOf}
use Rattle.image_model.specs.Means.{MeaningOf}
use Rattle.image_model.specs.Nodes.{in_method, in_doit}
use Rattle.image_model.specs.Uses.{is_sender, name_used}
use Rattle.class_table.specs.declared.record.MethodRec.{MethodRec}
use Rattle.class_table.specs.declared.record.DoIt.{DoIt}
use Rattle.class_table.specs.Slots.{Slots}
use Rattle.class_table.specs.View.{doit_of, entry_of, live_at, number_image}
use Rattle.parameter_questions.specs.Codes.{are_dropped, means_in_doit, means_in_method}
use Rattle.refusal_witnesses.specs.Witnesses.{AtPlace, WitnessOf, nodes_that}
use Rattle.use_questions.specs.Questions.{are_doits_asked, is_asked, is_meant, name_of}
use Rattle.use_witnesses.specs.declared.uses.Use.{Use}
use Rattle.use_witnesses.specs.declared.uses.Use.TheVariants as node
use Rattle.use_witnesses.specs.declared.uses.Uses.{Uses}

-- whether a node does it, if names stand for this at its place
abbrev pub is_use : Use → (List ℕ → ℕ → MeaningOf ℕ) → Placed ℕ → Bool
is_use (node.Means what) meaning e = option_map_or (nat_eq (name_of what)) (name_used e.1) false && is_meant what (meaning e.0 (name_of what))
is_use (node.Sends s) meaning e = is_sender nat_eq s e.1
is_use (node.Passes s k) meaning e = not (are_dropped meaning s k e)

module _ (s : Slots) (u : Uses) where
  -- the nodes in a method with its number, if the method is asked
  abbrev pub entry_uses : ℕ × EntryOf ℕ → List (WitnessOf ℕ)
  entry_uses e = if is_asked (number_image s) u.whose e.1 then nodes_that (is_use u.what (means_in_method s e.1)) (AtPlace (in_method e.0)) e.1.tree.body else []

  -- the same of the method in a slot, if the slot is live
  abbrev pub slot_uses : ℕ × ℕ → List (WitnessOf ℕ)
  slot_uses e = option_map_or (λ (m : MethodRec). entry_uses (e.0, entry_of s.classes m)) (live_at s.methods s.method_order e.1) []

  -- the same of the method of a number, if there are so many
  abbrev pub method_uses : ℕ → List (WitnessOf ℕ)
  method_uses k = option_map_or (λ slot. slot_uses (k, slot)) (slice_get s.method_order k) []

  -- the nodes in a do-it with its number
  abbrev pub body_uses : ℕ × DoItOf ℕ → List (WitnessOf ℕ)
  body_uses e = nodes_that (is_use u.what (means_in_doit s e.1)) (AtPlace (in_doit e.0)) e.1.body

  -- the same of the do-it of a number, if there are so many
  abbrev pub doit_uses : ℕ → List (WitnessOf ℕ)
  doit_uses k = option_map_or (λ (d : DoIt). body_uses (k, doit_of d)) (slice_get s.doits k) []

  -- all of the methods, and of the do-its, if they are asked
  abbrev pub uses_in_methods : List (WitnessOf ℕ)
  uses_in_methods = flat_map entry_uses (enumerate_from 0 (number_image s).methods)

  abbrev pub uses_in_doits : List (WitnessOf ℕ)
  uses_in_doits = if are_doits_asked u.whose then flat_map body_uses (enumerate_from 0 (number_image s).doits) else []

  abbrev pub uses_there : List (WitnessOf ℕ)
  uses_there = uses_in_methods ++ uses_in_doits
