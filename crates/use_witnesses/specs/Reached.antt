-- What reaches classes that find another method once one has moved, from the slots.
use Rattle.std.specs.Prelude.{◌≡◌, ℕ, List, [], ◌∷◌, false, nat_eq, if◌then◌else◌}
use Rattle.std.specs.List.{flat_map}
use Rattle.std.specs.Option.{option_map_or}
use Rattle.image_model.specs.Image.{EntryOf}
use Rattle.image_model.specs.Words.{number_words}
use Rattle.class_table.specs.declared.record.ClassRec.{ClassRec}
use Rattle.class_table.specs.declared.record.MethodRec.{MethodRec}
use Rattle.class_table.specs.Slots.{Slots}
use Rattle.class_table.specs.View.{entry_of, live_at, number_image}
use Rattle.command_model.specs.Commands.{CommandOf, AddMethod, PushUpMethod, PushDownMethod}
use Rattle.command_model.specs.Hierarchy.{superclass_name}
use Rattle.command_model.specs.MethodConditions.{is_sent_nowhere}
use Rattle.command_model.specs.MethodEffects.{method_added, method_pushed_up, method_pushed_down}
use Rattle.command_model.specs.SameMethods.{is_super_sender}
use Rattle.commands.specs.Views.{asked_by}
use Rattle.method_questions.specs.declared.moves.Moved.{Moved}
use Rattle.method_questions.specs.Unreached.{LeadsTo, is_one_reached}
use Rattle.refusal_witnesses.specs.MethodWitnesses.{reachings}
use Rattle.refusal_witnesses.specs.Witnesses.{InMethod, WitnessOf, AClass, nodes_that}

module _ (s : Slots) where
  -- the messages of a selector to `super` in a method, if they begin in the class of a name
  abbrev pub entry_begins : (class selector : ℕ) → EntryOf ℕ → List (WitnessOf ℕ)
  entry_begins class selector m =
      if option_map_or (λ d. option_map_or (nat_eq class) (superclass_name nat_eq (number_image s) d) false) m.class false
      then nodes_that (λ e. is_super_sender (asked_by s.names).is_super nat_eq selector e.1) (InMethod m) m.tree.body
      else []

  -- the same in the method of a slot, if the slot is live
  abbrev pub slot_begins : (class selector slot : ℕ) → List (WitnessOf ℕ)
  slot_begins class selector slot = option_map_or (λ (m : MethodRec). entry_begins class selector (entry_of s.classes m)) (live_at s.methods s.method_order slot) []

  -- all of them
  abbrev pub supers_begin : (class selector : ℕ) → List (WitnessOf ℕ)
  supers_begin class selector = flat_map (entry_begins class selector) (number_image s).methods

  -- the class of a slot with what reaches it, if the slot is live and the class finds another method
  abbrev pub another_at : Moved → ℕ → List (WitnessOf ℕ)
  another_at v k =
      option_map_or (λ (c : ClassRec).
      if is_one_reached s v k then AClass c.name ∷ reachings (number_words s.names) (asked_by s.names).is_super (number_image s) c.name v.selector else [])
      (live_at s.classes s.class_order k) []

  -- all of them, if the selector is sent at all
  abbrev pub others_at : Moved → List (WitnessOf ℕ)
  others_at v = if is_sent_nowhere (number_words s.names) (number_image s) v.selector then [] else flat_map (another_at v) s.class_order

  -- a move leads to the image after a command that brings or moves a method
  abbrev pub LeadsAfter : Moved → CommandOf ℕ → Type 0
  LeadsAfter v (AddMethod c meta protocol text tree) = LeadsTo s v (method_added c meta protocol text tree (number_image s)) meta tree.selector
  LeadsAfter v (PushUpMethod c meta t) = LeadsTo s v (method_pushed_up nat_eq c meta t (number_image s)) meta t
  LeadsAfter v (PushDownMethod c meta t) = LeadsTo s v (method_pushed_down nat_eq c meta t (number_image s)) meta t
  LeadsAfter v command = Unit {0}

-- the selector is that of the method that the command brings or moves
abbrev pub MovesSelector : CommandOf ℕ → ℕ → Type 0
MovesSelector (AddMethod c meta protocol text tree) s = s ≡ tree.selector
MovesSelector (PushUpMethod c meta t) s = s ≡ t
MovesSelector (PushDownMethod c meta t) s = s ≡ t
MovesSelector command s = Unit {0}
