-- What is in the way of the conditions of methods that come, go or move.
use Rattle.std.specs.Prelude.{Bool, false, not, ◌&&◌, if◌then◌else◌, List, [], ◌∷◌, ◌++◌, map, Some}
use Rattle.std.specs.List.{flat_map}
use Rattle.std.specs.Option.{option_map_or}
use Rattle.tree_model.specs.Nodes.{Placed, nodes}
use Rattle.image_model.specs.Image.{ClassOf, EntryOf, ImageOf}
use Rattle.image_model.specs.Words.{WordsOf}
use Rattle.image_model.specs.Means.{means}
use Rattle.image_model.specs.Lookup.{own_method, super_lookup}
use Rattle.image_model.specs.Uses.{name_used, senders, class_uses}
use Rattle.command_model.specs.Commands.{CommandOf, AddMethod, PushUpMethod, PushDownMethod}
use Rattle.command_model.specs.Hierarchy.{superclass_name}
use Rattle.command_model.specs.SameMethods.{same_meaning, is_super_node, is_super_sender, is_same_method}
use Rattle.command_model.specs.MethodEffects.{of_class_named, method_added, method_pushed_up, method_pushed_down}
use Rattle.command_model.specs.MethodConditions.{is_sent_nowhere, is_reached, finds_another}
use Rattle.refusal_witnesses.specs.Witnesses.{InMethod, WitnessOf, TwoMeanings, a_use, a_method, a_class_of, where_true, nodes_that}

-- Implements: the method, if it is one of the kernel
abbrev pub kernel_method : {N : Type 0} → (N → N → Bool) → ImageOf N → N → Bool → N → List (WitnessOf N)
kernel_method same i c meta s = option_map_or (λ (m : EntryOf _). where_true m.kernel (a_method m)) (own_method same i.methods c meta s) []

-- NotImplements: the method that is there
abbrev pub method_there : {N : Type 0} → (N → N → Bool) → ImageOf N → N → Bool → N → List (WitnessOf N)
method_there same i c meta s = option_map_or (λ (m : EntryOf _). a_method m ∷ []) (own_method same i.methods c meta s) []

-- a name of a method that means one thing there and another in a method of another image
abbrev pub difference_at : {N : Type 0} → WordsOf N → ImageOf N → EntryOf N → ImageOf N → EntryOf N → Placed N → List (WitnessOf N)
difference_at w i m j n e =
    option_map_or (λ x. where_true (not (same_meaning w.tests.same (means w i m e.0 x) (means w j n e.0 x))) (TwoMeanings (InMethod m) e.0 x (means w i m e.0 x) (means w j n e.0 x))) (name_used e.1) []

-- all of them
abbrev pub differences : {N : Type 0} → WordsOf N → ImageOf N → EntryOf N → ImageOf N → EntryOf N → List (WitnessOf N)
differences w i m j n = flat_map (difference_at w i m j n) (nodes m.tree.body)

module _ {N : Type 0} (w : WordsOf N) (is_super : N → Bool) (i : ImageOf N) where
  -- Removable: who sends the selector, if nothing alike is inherited
  abbrev pub missers : N → Bool → N → List (WitnessOf N)
  missers c meta s =
      option_map_or (λ m.
      if option_map_or (is_same_method w is_super i i m) (super_lookup w i (Some c) meta s) false then [] else map a_use (senders w i s))
      (own_method w.tests.same i.methods c meta s) []

  -- NoSuper: the nodes that are `super`
  abbrev pub supers : N → Bool → N → List (WitnessOf N)
  supers c meta s =
      option_map_or (λ (m : EntryOf N). nodes_that (λ e. is_super_node is_super e.1) (InMethod m) m.tree.body) (own_method w.tests.same i.methods c meta s) []

  -- MeansSame: the names that mean another thing in the class d
  abbrev pub other_meanings : N → Bool → N → N → List (WitnessOf N)
  other_meanings c meta s d = option_map_or (λ m. differences w i m i (of_class_named m d)) (own_method w.tests.same i.methods c meta s) []

  -- what reaches a class: the nodes that mean it, and the messages of the selector to `super` that begin in it
  abbrev pub reachings : N → N → List (WitnessOf N)
  reachings c s =
      map a_use (class_uses w i c)
      ++ flat_map (λ (m : EntryOf N).
      if option_map_or (λ d. option_map_or (w.tests.same c) (superclass_name w.tests.same i d) false) m.class false
      then nodes_that (λ e. is_super_sender is_super w.tests.same s e.1) (InMethod m) m.tree.body
      else []) i.methods

  -- a class that finds another method in the image j, if something reaches it, and what that is
  abbrev pub another_found : ImageOf N → Bool → N → ClassOf N → List (WitnessOf N)
  another_found j meta s e =
      if finds_another w is_super i j e.name meta s && is_reached w is_super i e.name s then a_class_of e ∷ reachings e.name s else []

  -- all of them, if the selector is sent at all
  abbrev pub others_found : ImageOf N → Bool → N → List (WitnessOf N)
  others_found j meta s = if is_sent_nowhere w i s then [] else flat_map (another_found j meta s) i.classes

  -- Unreached: so once a method is added, or goes up or down
  abbrev pub others_after : CommandOf N → N → List (WitnessOf N)
  others_after (AddMethod c meta protocol text tree) s = others_found (method_added c meta protocol text tree i) meta s
  others_after (PushUpMethod c meta t) s = others_found (method_pushed_up w.tests.same c meta t i) meta s
  others_after (PushDownMethod c meta t) s = others_found (method_pushed_down w.tests.same c meta t i) meta s
  others_after command s = []
