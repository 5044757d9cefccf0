-- The witnesses of the conditions of a single method are the same once names are changed one to one.
use Rattle.std.proofs.Common.{◌≡◌, Bool, false, not, ◌&&◌, List, [], ◌∷◌, map, flat_map, Option, Some, refl, ap, ◌∙◌}
use Rattle.std.specs.Option.{option_map_or}
use Rattle.std.specs.Prelude.{if◌then◌else◌}
use Rattle.tree_model.specs.Tree.{map_sequence, map_method}
use Rattle.tree_model.specs.Nodes.{Placed, nodes}
use Rattle.tree_model.proofs.NodesLemmas.{nodes-map_sequence}
use Rattle.image_model.specs.Image.{ClassOf, EntryOf, ImageOf, map_class, map_entry, map_image}
use Rattle.image_model.specs.Words.{WordsOf, KeepsWords}
use Rattle.image_model.specs.Lookup.{own_method, super_lookup}
use Rattle.image_model.specs.Means.{means}
use Rattle.image_model.specs.Uses.{name_used, senders, class_uses}
use Rattle.command_model.specs.Commands.{CommandOf, AddMethod, PushUpMethod, PushDownMethod}
use Rattle.command_model.specs.Hierarchy.{superclass_name}
use Rattle.command_model.specs.SameMethods.{same_meaning, is_super_node, is_super_sender, is_same_method}
use Rattle.command_model.specs.MethodEffects.{method_added, of_class_named, method_pushed_up, method_pushed_down}
use Rattle.command_model.specs.MethodConditions.{is_sent_nowhere, is_reached, finds_another}
use Rattle.command_numbers.specs.MappedCommands.{map_command}
use Rattle.command_numbers.proofs.Lists.{or-total, flat-total}
use Rattle.command_numbers.proofs.Everywhere.{Every}
use Rattle.command_numbers.proofs.NodesAsked.{mapped_node, name_used-map, is_super_node-map, is_super_sender-map, same_meaning-map}
use Rattle.command_numbers.proofs.Classes.{same-map, own_method-there}
use Rattle.command_numbers.proofs.UsesAsked.{means-there, senders-map, class_uses-map}
use Rattle.command_numbers.proofs.MethodEffectsMapped.{method_added-map, method_pushed_up-map, method_pushed_down-map}
use Rattle.command_numbers.proofs.MethodConditionsMapped.{super_lookup-there, is_same_method-map, is_sent_nowhere-map, is_above, is_reached-map, finds_another-map}
use Rattle.refusal_witnesses.specs.Witnesses.{InMethod, WitnessOf, TwoMeanings, a_use, a_method, a_class_of, where_true, nodes_that}
use Rattle.refusal_witnesses.specs.MethodWitnesses.{kernel_method, method_there, difference_at, differences, missers, supers, other_meanings, reachings, another_found, others_found, others_after}
use Rattle.witness_numbers.specs.MappedWitnesses.{map_witness}
use Rattle.witness_numbers.proofs.Gathered.{mapped, joined, where-map, then-map, else-map, maybe-map, uses-map, nodes_that-map}

module _ {M N : Type 0} (f : M → N) (w : WordsOf M) (v : WordsOf N) (keeps : KeepsWords Every f w v) where
  -- a name with its two meanings
  difference_at-map : (i : ImageOf M) (m : EntryOf M) (j : ImageOf M) (n : EntryOf M) (e : Placed M)
      → difference_at v (map_image f i) (map_entry f m) (map_image f j) (map_entry f n) (mapped_node f e) ≡ mapped f (difference_at w i m j n e)
  difference_at-map i m j n e =
      ap (λ (o : Option N). option_map_or there o []) (name_used-map f e.1)
      ∙ maybe-map f f here there each (name_used e.1)
    where
      here : M → List (WitnessOf M)
      here x = where_true (not (same_meaning w.tests.same (means w i m e.0 x) (means w j n e.0 x))) (TwoMeanings (InMethod m) e.0 x (means w i m e.0 x) (means w j n e.0 x))

      there : N → List (WitnessOf N)
      there x =
          where_true (not (same_meaning v.tests.same (means v (map_image f i) (map_entry f m) e.0 x) (means v (map_image f j) (map_entry f n) e.0 x)))
          (TwoMeanings (InMethod (map_entry f m)) e.0 x (means v (map_image f i) (map_entry f m) e.0 x) (means v (map_image f j) (map_entry f n) e.0 x))

      each : (x : M) → there (f x) ≡ mapped f (here x)
      each x =
          where-map f (not (same_meaning w.tests.same (means w i m e.0 x) (means w j n e.0 x))) _ (TwoMeanings (InMethod m) e.0 x (means w i m e.0 x) (means w j n e.0 x)) _
          (ap not ((λ k. same_meaning v.tests.same (means-there f w v keeps i m e.0 x k) (means-there f w v keeps j n e.0 x k)) ∙ same_meaning-map f w.tests.same v.tests.same (same-map f w v keeps) (means w i m e.0 x) (means w j n e.0 x)))
          (λ k. TwoMeanings (InMethod (map_entry f m)) e.0 (f x) (means-there f w v keeps i m e.0 x k) (means-there f w v keeps j n e.0 x k))

  differences-map : (i : ImageOf M) (m : EntryOf M) (j : ImageOf M) (n : EntryOf M) → differences v (map_image f i) (map_entry f m) (map_image f j) (map_entry f n) ≡ mapped f (differences w i m j n)
  differences-map i m j n =
      ap (flat_map (difference_at v (map_image f i) (map_entry f m) (map_image f j) (map_entry f n))) (nodes-map_sequence f m.tree.body)
      ∙ flat-total (mapped_node f) (map_witness f) (difference_at w i m j n) (difference_at v (map_image f i) (map_entry f m) (map_image f j) (map_entry f n)) (difference_at-map i m j n) (nodes m.tree.body)

  module _ (i : ImageOf M) where
    -- what is in the way of a method that a class itself has
    of_own-map : (p : EntryOf M → List (WitnessOf M)) (q : EntryOf N → List (WitnessOf N)) → ((m : EntryOf M) → q (map_entry f m) ≡ mapped f (p m)) → (c : M) (meta : Bool) (s : M)
        → option_map_or q (own_method v.tests.same (map (map_entry f) i.methods) (f c) meta (f s)) [] ≡ mapped f (option_map_or p (own_method w.tests.same i.methods c meta s) [])
    of_own-map p q e c meta s =
        ap (λ (o : Option (EntryOf N)). option_map_or q o []) (own_method-there f w v keeps i.methods c meta s)
        ∙ maybe-map f (map_entry f) p q e (own_method w.tests.same i.methods c meta s)

    pub kernel_method-map : (c : M) (meta : Bool) (s : M) → kernel_method v.tests.same (map_image f i) (f c) meta (f s) ≡ mapped f (kernel_method w.tests.same i c meta s)
    kernel_method-map =
        of_own-map (λ (m : EntryOf M). where_true m.kernel (a_method m)) (λ (m : EntryOf N). where_true m.kernel (a_method m))
        (λ m. where-map f m.kernel m.kernel (a_method m) (a_method (map_entry f m)) refl refl)

    pub method_there-map : (c : M) (meta : Bool) (s : M) → method_there v.tests.same (map_image f i) (f c) meta (f s) ≡ mapped f (method_there w.tests.same i c meta s)
    method_there-map = of_own-map (λ (m : EntryOf M). a_method m ∷ []) (λ (m : EntryOf N). a_method m ∷ []) (λ m. refl)

    module _ (p : M → Bool) (q : N → Bool) (e : (n : M) → q (f n) ≡ p n) where
      pub supers-map : (c : M) (meta : Bool) (s : M) → supers v q (map_image f i) (f c) meta (f s) ≡ mapped f (supers w p i c meta s)
      supers-map =
          of_own-map (λ (m : EntryOf M). nodes_that (λ x. is_super_node p x.1) (InMethod m) m.tree.body) (λ (m : EntryOf N). nodes_that (λ x. is_super_node q x.1) (InMethod m) m.tree.body)
          (λ m. nodes_that-map f (λ x. is_super_node p x.1) (λ x. is_super_node q x.1) (λ x. is_super_node-map f p q e x.1) (InMethod m) m.tree.body)

      pub other_meanings-map : (c : M) (meta : Bool) (s d : M) → other_meanings v q (map_image f i) (f c) meta (f s) (f d) ≡ mapped f (other_meanings w p i c meta s d)
      other_meanings-map c meta s d =
          of_own-map (λ m. differences w i m i (of_class_named m d)) (λ m. differences v (map_image f i) m (map_image f i) (of_class_named m (f d)))
          (λ m. differences-map i m i (of_class_named m d)) c meta s

      -- who sends a selector, if nothing alike is inherited
      pub missers-map : (c : M) (meta : Bool) (s : M) → missers v q (map_image f i) (f c) meta (f s) ≡ mapped f (missers w p i c meta s)
      missers-map c meta s = of_own-map here there each c meta s
        where
          inherited : EntryOf M → Bool
          inherited m = option_map_or (is_same_method w p i i m) (super_lookup w i (Some c) meta s) false

          inherited_there : EntryOf N → Bool
          inherited_there m = option_map_or (is_same_method v q (map_image f i) (map_image f i) m) (super_lookup v (map_image f i) (Some (f c)) meta (f s)) false

          inherited-map : (m : EntryOf M) → inherited_there (map_entry f m) ≡ inherited m
          inherited-map m =
              ap (λ (o : Option (EntryOf N)). option_map_or (is_same_method v q (map_image f i) (map_image f i) (map_entry f m)) o false) (super_lookup-there f w v keeps i (Some c) meta s)
              ∙ or-total (map_entry f) (is_same_method w p i i m) (is_same_method v q (map_image f i) (map_image f i) (map_entry f m)) false (is_same_method-map f w v keeps p q e i i m) (super_lookup w i (Some c) meta s)

          here : EntryOf M → List (WitnessOf M)
          here m = if inherited m then [] else map a_use (senders w i s)

          there : EntryOf N → List (WitnessOf N)
          there m = if inherited_there m then [] else map a_use (senders v (map_image f i) (f s))

          each : (m : EntryOf M) → there (map_entry f m) ≡ mapped f (here m)
          each m =
              else-map f (inherited m) (inherited_there (map_entry f m)) (map a_use (senders w i s)) (map a_use (senders v (map_image f i) (f s))) (inherited-map m)
              (ap (map (a_use {N = N})) (senders-map f w v keeps i s) ∙ uses-map f (senders w i s))

      -- what reaches a class
      reachings-map : (c s : M) → reachings v q (map_image f i) (f c) (f s) ≡ mapped f (reachings w p i c s)
      reachings-map c s =
          joined f (map a_use (class_uses w i c)) (flat_map here i.methods) _ _ (ap (map (a_use {N = N})) (class_uses-map f w v keeps i c) ∙ uses-map f (class_uses w i c))
          (flat-total (map_entry f) (map_witness f) here there each i.methods)
        where
          begins : EntryOf M → Bool
          begins m = option_map_or (λ d. option_map_or (w.tests.same c) (superclass_name w.tests.same i d) false) m.class false

          begins_there : EntryOf N → Bool
          begins_there m = option_map_or (λ d. option_map_or (v.tests.same (f c)) (superclass_name v.tests.same (map_image f i) d) false) m.class false

          here : EntryOf M → List (WitnessOf M)
          here m = if begins m then nodes_that (λ x. is_super_sender p w.tests.same s x.1) (InMethod m) m.tree.body else []

          there : EntryOf N → List (WitnessOf N)
          there m = if begins_there m then nodes_that (λ x. is_super_sender q v.tests.same (f s) x.1) (InMethod m) m.tree.body else []

          each : (m : EntryOf M) → there (map_entry f m) ≡ mapped f (here m)
          each m =
              then-map f (begins m) (begins_there (map_entry f m)) (nodes_that (λ x. is_super_sender p w.tests.same s x.1) (InMethod m) m.tree.body)
              (nodes_that (λ x. is_super_sender q v.tests.same (f s) x.1) (InMethod (map_entry f m)) (map_sequence f m.tree.body)) (is_above f w v keeps i p q e c m.class)
              (nodes_that-map f (λ x. is_super_sender p w.tests.same s x.1) (λ x. is_super_sender q v.tests.same (f s) x.1)
              (λ x. is_super_sender-map f w.tests.same v.tests.same (same-map f w v keeps) p q e s x.1) (InMethod m) m.tree.body)

      -- the classes that find another method in the image after, and what reaches them
      module _ (after : ImageOf M) (meta : Bool) (s : M) where
        another_found-map : (d : ClassOf M) → another_found v q (map_image f i) (map_image f after) meta (f s) (map_class f d) ≡ mapped f (another_found w p i after meta s d)
        another_found-map d =
            then-map f (finds_another w p i after d.name meta s && is_reached w p i d.name s)
            (finds_another v q (map_image f i) (map_image f after) (f d.name) meta (f s) && is_reached v q (map_image f i) (f d.name) (f s))
            (a_class_of d ∷ reachings w p i d.name s) (a_class_of (map_class f d) ∷ reachings v q (map_image f i) (f d.name) (f s))
            (λ j. finds_another-map f w v keeps i p q e after d.name meta s j && is_reached-map f w v keeps i p q e d.name s j)
            (ap (λ (ws : List (WitnessOf N)). a_class_of (map_class f d) ∷ ws) (reachings-map d.name s))

        others_found-map : (after_there : ImageOf N) → after_there ≡ map_image f after → others_found v q (map_image f i) after_there meta (f s) ≡ mapped f (others_found w p i after meta s)
        others_found-map after_there h =
            ap (λ (k : ImageOf N). others_found v q (map_image f i) k meta (f s)) h
            ∙ else-map f (is_sent_nowhere w i s) (is_sent_nowhere v (map_image f i) (f s)) (flat_map (another_found w p i after meta s) i.classes)
            (flat_map (another_found v q (map_image f i) (map_image f after) meta (f s)) (map (map_class f) i.classes)) (is_sent_nowhere-map f w v keeps i s)
            (flat-total (map_class f) (map_witness f) (another_found w p i after meta s) (another_found v q (map_image f i) (map_image f after) meta (f s)) another_found-map i.classes)

      pub others_after-map : (command : CommandOf M) (s : M) → others_after v q (map_image f i) (map_command f command) (f s) ≡ mapped f (others_after w p i command s)
      others_after-map (AddMethod c meta protocol text tree) s =
          others_found-map (method_added c meta protocol text tree i) meta s (method_added (f c) meta protocol text (map_method f tree) (map_image f i)) (method_added-map f c meta protocol text tree i)
      others_after-map (PushUpMethod c meta t) s =
          others_found-map (method_pushed_up w.tests.same c meta t i) meta s (method_pushed_up v.tests.same (f c) meta (f t) (map_image f i)) (method_pushed_up-map f w v keeps i c meta t)
      others_after-map (PushDownMethod c meta t) s =
          others_found-map (method_pushed_down w.tests.same c meta t i) meta s (method_pushed_down v.tests.same (f c) meta (f t) (map_image f i)) (method_pushed_down-map f w v keeps i c meta t)
      others_after-map command s = refl
