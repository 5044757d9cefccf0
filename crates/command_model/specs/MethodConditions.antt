-- The conditions of methods. A condition on a method or a class that is not there is false.
use Rattle.std.specs.Prelude.{Bool, false, not, ◌&&◌, ◌||◌, Some, is_none}
use Rattle.std.specs.List.{list_any}
use Rattle.std.specs.Option.{option_map_or}
use Rattle.tree_model.specs.Nodes.{nodes}
use Rattle.scope_model.specs.Control.{is_empty}
use Rattle.image_model.specs.Image.{ClassOf, EntryOf, ImageOf}
use Rattle.image_model.specs.Words.{WordsOf}
use Rattle.image_model.specs.Lookup.{own_method, lookup, super_lookup}
use Rattle.image_model.specs.Uses.{senders, class_uses}
use Rattle.command_model.specs.Hierarchy.{is_class, superclass_name}
use Rattle.command_model.specs.SameMethods.{has_super, is_super_sender, means_same_in, is_same_method, is_same_found}
use Rattle.command_model.specs.MethodEffects.{of_class_named}

-- the user has the method
abbrev pub implements : {N : Type 0} → (N → N → Bool) → ImageOf N → N → Bool → N → Bool
implements same i c meta s = option_map_or (λ (m : EntryOf _). not m.kernel) (own_method same i.methods c meta s) false

-- the class is there, and has no such method of its own
abbrev pub lacks_method : {N : Type 0} → (N → N → Bool) → ImageOf N → N → Bool → N → Bool
lacks_method same i c meta s = is_class same i c && is_none (own_method same i.methods c meta s)

-- no node sends the selector
abbrev pub is_sent_nowhere : {N : Type 0} → WordsOf N → ImageOf N → N → Bool
is_sent_nowhere w i s = is_empty (senders w i s)

module _ {N : Type 0} (w : WordsOf N) (is_super : N → Bool) (i : ImageOf N) where
  -- the selector is sent nowhere, or what is inherited in place of the method is the same
  abbrev pub is_removable : N → Bool → N → Bool
  is_removable c meta s =
      option_map_or (λ m. is_sent_nowhere w i s || option_map_or (is_same_method w is_super i i m) (super_lookup w i (Some c) meta s) false)
      (own_method w.tests.same i.methods c meta s) false

  -- `super` does not stand in the method
  abbrev pub is_without_super : N → Bool → N → Bool
  is_without_super c meta s = option_map_or (λ m. not (has_super is_super m)) (own_method w.tests.same i.methods c meta s) false

  -- each name in the method means what it would mean if the method were one of the class d
  abbrev pub means_same_in_class : N → Bool → N → N → Bool
  means_same_in_class c meta s d =
      is_class w.tests.same i d
      && option_map_or (λ m. means_same_in w i m i (of_class_named m d)) (own_method w.tests.same i.methods c meta s) false

  -- whether a message to `super` of a selector, in a method of either side, begins its look-up in the class
  abbrev pub begins_in : N → N → EntryOf N → Bool
  begins_in c s m =
      option_map_or (λ d. option_map_or (w.tests.same c) (superclass_name w.tests.same i d) false) m.class false
      && list_any (λ e. is_super_sender is_super w.tests.same s e.1) (nodes m.tree.body)

  -- whether a node means the class, or a message to `super` of the selector begins in it
  abbrev pub is_reached : N → N → Bool
  is_reached c s = not (is_empty (class_uses w i c)) || list_any (begins_in c s) i.methods

  -- whether the class finds another method for the selector on the side in the image j than in i, or finds one in one of them alone
  abbrev pub finds_another : ImageOf N → N → Bool → N → Bool
  finds_another j c meta s = not (is_same_found w is_super i j (lookup w i (Some c) meta s) (lookup w j (Some c) meta s))

  -- the selector is sent nowhere, or no class that finds another method for it in the image j is reached
  abbrev pub is_unreached : ImageOf N → Bool → N → Bool
  is_unreached j meta s =
      is_sent_nowhere w i s || not (list_any (λ (e : ClassOf _). finds_another j e.name meta s && is_reached e.name s) i.classes)
