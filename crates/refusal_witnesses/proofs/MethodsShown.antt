-- The conditions of methods hold just where what they speak of is there and nothing is in their way.
use Rattle.std.proofs.Common.{◌≡◌, List, [], ◌∷◌, Option, Some, None, map, refl, ap, sym, ◌∙◌}
use Rattle.std.specs.Prelude.{Bool, true, false, cond, not, ◌&&◌, ◌||◌, is_some, is_none}
use Rattle.std.specs.List.{list_any, flat_map}
use Rattle.std.specs.Option.{option_map_or}
use Rattle.tree_model.specs.Nodes.{Placed, nodes}
use Rattle.scope_model.specs.Control.{is_empty}
use Rattle.image_model.specs.Image.{ClassOf, EntryOf, ImageOf}
use Rattle.image_model.specs.Words.{WordsOf}
use Rattle.image_model.specs.Means.{means}
use Rattle.image_model.specs.Lookup.{own_method, super_lookup}
use Rattle.image_model.specs.Uses.{name_used, senders}
use Rattle.command_model.specs.Hierarchy.{is_class}
use Rattle.command_model.specs.SameMethods.{same_meaning, means_same_in, is_super_node, has_super, is_same_method}
use Rattle.command_model.specs.MethodEffects.{of_class_named}
use Rattle.command_model.specs.MethodConditions.{implements, lacks_method, is_sent_nowhere, is_removable, is_without_super, means_same_in_class, is_reached, finds_another, is_unreached}
use Rattle.refusal_witnesses.specs.Witnesses.{InMethod, WitnessOf, TwoMeanings, a_use, a_method, a_class_of, where_true, nodes_that}
use Rattle.refusal_witnesses.specs.MethodWitnesses.{kernel_method, method_there, difference_at, differences, missers, supers, other_meanings, reachings, another_found, others_found}
use Rattle.refusal_witnesses.proofs.Lists.{and-and, empty-map, flat-none, flat-all, empty-where, empty-unless, empty-or, empty-nodes, of-option, passing-option}

pub shows-kernel-method : {N : Type 0} (same : N → N → Bool) (i : ImageOf N) (c : N) (meta : Bool) (s : N) → implements same i c meta s ≡ (is_some (own_method same i.methods c meta s) && is_empty (kernel_method same i c meta s))
shows-kernel-method {N} same i c meta s =
    of-option (λ (m : EntryOf N). not m.kernel) (λ (m : EntryOf N). where_true m.kernel (a_method m)) (λ m. sym (empty-where m.kernel (a_method m))) (own_method same i.methods c meta s)

pub shows-method-there : {N : Type 0} (same : N → N → Bool) (i : ImageOf N) (c : N) (meta : Bool) (s : N) → lacks_method same i c meta s ≡ (is_class same i c && is_empty (method_there same i c meta s))
shows-method-there {N} same i c meta s = ap (λ b. is_class same i c && b) (by (own_method same i.methods c meta s))
  where
    by : (o : Option (EntryOf N)) → is_none o ≡ is_empty (option_map_or (λ (m : EntryOf N). a_method m ∷ []) o [])
    by None = refl
    by (Some m) = refl

pub shows-differences : {N : Type 0} (w : WordsOf N) (i : ImageOf N) (m : EntryOf N) (j : ImageOf N) (n : EntryOf N) → means_same_in w i m j n ≡ is_empty (differences w i m j n)
shows-differences {N} w i m j n = sym (flat-all (difference_at w i m j n) (λ e. option_map_or (alike e) (name_used e.1) true) (λ e. sym (passing-option (alike e) (shown e) (λ x. sym (empty-unless (alike e x) (TwoMeanings (InMethod m) e.0 x (means w i m e.0 x) (means w j n e.0 x)))) (name_used e.1))) (nodes m.tree.body))
  where
    alike : Placed N → N → Bool
    alike e x = same_meaning w.tests.same (means w i m e.0 x) (means w j n e.0 x)

    shown : Placed N → N → List (WitnessOf N)
    shown e x = where_true (not (alike e x)) (TwoMeanings (InMethod m) e.0 x (means w i m e.0 x) (means w j n e.0 x))

module _ {N : Type 0} (w : WordsOf N) (is_super : N → Bool) (i : ImageOf N) where
  pub shows-missers : (c : N) (meta : Bool) (s : N) → is_removable w is_super i c meta s ≡ (is_some (own_method w.tests.same i.methods c meta s) && is_empty (missers w is_super i c meta s))
  shows-missers c meta s =
      let alike : EntryOf N → Bool = λ m. option_map_or (is_same_method w is_super i i m) (super_lookup w i (Some c) meta s) false in
      let sent : List (WitnessOf N) = map (a_use {N = N}) (senders w i s) in
      of-option (λ m. is_sent_nowhere w i s || alike m) (λ m. cond (alike m) [] sent) (λ m. either (is_sent_nowhere w i s) (alike m) sent (empty-map (a_use {N = N}) (senders w i s))) (own_method w.tests.same i.methods c meta s)
    where
      either : (x b : Bool) (ws : List (WitnessOf N)) → is_empty ws ≡ x → (x || b) ≡ is_empty (cond b [] ws)
      either true true ws h = refl
      either false true ws h = refl
      either true false ws h = sym h
      either false false ws h = sym h

  pub shows-supers : (c : N) (meta : Bool) (s : N) → is_without_super w is_super i c meta s ≡ (is_some (own_method w.tests.same i.methods c meta s) && is_empty (supers w is_super i c meta s))
  shows-supers c meta s =
      of-option (λ m. not (has_super is_super m)) (λ (m : EntryOf N). nodes_that (λ e. is_super_node is_super e.1) (InMethod m) m.tree.body)
      (λ m. sym (empty-nodes (λ e. is_super_node is_super e.1) (InMethod m) m.tree.body)) (own_method w.tests.same i.methods c meta s)

  pub shows-other-meanings : (c : N) (meta : Bool) (s d : N) → means_same_in_class w is_super i c meta s d ≡ ((is_class w.tests.same i d && is_some (own_method w.tests.same i.methods c meta s)) && is_empty (other_meanings w is_super i c meta s d))
  shows-other-meanings c meta s d =
      ap (λ b. is_class w.tests.same i d && b)
      (of-option (λ m. means_same_in w i m i (of_class_named m d)) (λ m. differences w i m i (of_class_named m d)) (λ m. shows-differences w i m i (of_class_named m d)) (own_method w.tests.same i.methods c meta s))
      ∙ sym (and-and (is_class w.tests.same i d) (is_some (own_method w.tests.same i.methods c meta s)) (is_empty (other_meanings w is_super i c meta s d)))

  pub shows-others-found : (j : ImageOf N) (meta : Bool) (s : N) → is_unreached w is_super i j meta s ≡ is_empty (others_found w is_super i j meta s)
  shows-others-found j meta s =
      sym (empty-or (is_sent_nowhere w i s) (flat_map (another_found w is_super i j meta s) i.classes) (not (list_any found i.classes))
      (flat-none (another_found w is_super i j meta s) found (λ e. one (found e) (a_class_of e) (reachings w is_super i e.name s)) i.classes))
    where
      found : ClassOf N → Bool
      found e = finds_another w is_super i j e.name meta s && is_reached w is_super i e.name s

      one : (b : Bool) (v : WitnessOf N) (vs : List (WitnessOf N)) → is_empty (cond b (v ∷ vs) []) ≡ not b
      one true v vs = refl
      one false v vs = refl
