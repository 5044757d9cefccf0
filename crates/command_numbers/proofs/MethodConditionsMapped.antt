-- The conditions of methods have the same answer once names are changed one to one.
use Rattle.std.proofs.Common.{◌≡◌, Bool, true, false, not, ◌&&◌, ◌||◌, Option, Some, None, is_none, option_map, refl, ap, ◌∙◌}
use Rattle.std.specs.Bool.{beq}
use Rattle.std.specs.List.{list_any, list_all}
use Rattle.std.specs.Option.{option_map_or}
use Rattle.tree_model.specs.Tree.{MethodOf, map_method}
use Rattle.tree_model.specs.Nodes.{Placed, nodes}
use Rattle.tree_model.proofs.NodesLemmas.{nodes-map_sequence}
use Rattle.same_trees.specs.SameTrees.{same_code}
use Rattle.same_trees.proofs.Named.{code_mapped}
use Rattle.scope_model.specs.Control.{is_empty}
use Rattle.image_model.specs.Image.{ClassOf, EntryOf, ImageOf, map_class, map_entry, map_image}
use Rattle.image_model.specs.Words.{WordsOf, KeepsWords}
use Rattle.image_model.specs.Means.{means}
use Rattle.image_model.specs.Lookup.{own_method, lookup, super_lookup}
use Rattle.image_model.specs.Uses.{name_used}
use Rattle.image_model.proofs.Changed.{lookup-map_image, super_lookup-map_image}
use Rattle.command_model.specs.Hierarchy.{superclass_name}
use Rattle.command_model.specs.SameMethods.{same_meaning, means_same_in, is_super_node, has_super, is_super_sender, are_of_one_side, is_same_method, is_same_found}
use Rattle.command_model.specs.MethodEffects.{of_class_named}
use Rattle.command_model.specs.MethodConditions.{implements, lacks_method, is_sent_nowhere, is_removable, is_without_super, means_same_in_class, begins_in, is_reached, finds_another, is_unreached}
use Rattle.command_numbers.proofs.Lists.{none-map, any-total, all-total, or-total, option_eq-total}
use Rattle.command_numbers.proofs.Everywhere.{Every, every_option, every_image}
use Rattle.command_numbers.proofs.NodesAsked.{mapped_node, used-total, any_node, is_super_node-map, is_super_sender-map, same_meaning-map}
use Rattle.command_numbers.proofs.Classes.{same-map, own_method-there, asked_of_method, is_class-map, asked_of_superclass}
use Rattle.command_numbers.proofs.UsesAsked.{means-there, senders-map, class_uses-map}

module _ {M N : Type 0} (f : M → N) (w : WordsOf M) (v : WordsOf N) (keeps : KeepsWords Every f w v) where
  -- look-ups
  pub lookup-there : (i : ImageOf M) (c : Option M) (meta : Bool) (s : M) → lookup v (map_image f i) (option_map f c) meta (f s) ≡ option_map (map_entry f) (lookup w i c meta s)
  lookup-there i c meta s = lookup-map_image Every f w v keeps i (every_image Every (λ k. tt) i) c meta s (every_option Every (λ k. tt) c) tt

  pub super_lookup-there : (i : ImageOf M) (c : Option M) (meta : Bool) (s : M) → super_lookup v (map_image f i) (option_map f c) meta (f s) ≡ option_map (map_entry f) (super_lookup w i c meta s)
  super_lookup-there i c meta s = super_lookup-map_image Every f w v keeps i (every_image Every (λ k. tt) i) c meta s (every_option Every (λ k. tt) c) tt

  -- names mean the same in two methods
  means_same_in-map : (i : ImageOf M) (m : EntryOf M) (j : ImageOf M) (n : EntryOf M) → means_same_in v (map_image f i) (map_entry f m) (map_image f j) (map_entry f n) ≡ means_same_in w i m j n
  means_same_in-map i m j n =
      ap (list_all test_there) (nodes-map_sequence f m.tree.body)
      ∙ all-total (mapped_node f) test test_there
      (λ e. used-total f (λ x. same_meaning w.tests.same (means w i m e.0 x) (means w j n e.0 x)) (λ x. same_meaning v.tests.same (means v (map_image f i) (map_entry f m) e.0 x) (means v (map_image f j) (map_entry f n) e.0 x)) true
      (λ x. (λ k. same_meaning v.tests.same (means-there f w v keeps i m e.0 x k) (means-there f w v keeps j n e.0 x k)) ∙ same_meaning-map f w.tests.same v.tests.same (same-map f w v keeps) (means w i m e.0 x) (means w j n e.0 x)) e.1)
      (nodes m.tree.body)
    where
      test : Placed M → Bool
      test e = option_map_or (λ x. same_meaning w.tests.same (means w i m e.0 x) (means w j n e.0 x)) (name_used e.1) true

      test_there : Placed N → Bool
      test_there e = option_map_or (λ x. same_meaning v.tests.same (means v (map_image f i) (map_entry f m) e.0 x) (means v (map_image f j) (map_entry f n) e.0 x)) (name_used e.1) true

  are_of_one_side-map : (m n : EntryOf M) → are_of_one_side v.tests.same (map_entry f m) (map_entry f n) ≡ are_of_one_side w.tests.same m n
  are_of_one_side-map m n = λ i. option_eq-total f w.tests.same v.tests.same (same-map f w v keeps) m.class n.class i && beq m.meta n.meta

  pub code-map : (m n : MethodOf M) → same_code v.tests.same (map_method f m) (map_method f n) ≡ same_code w.tests.same m n
  code-map m n = code_mapped f v.tests.same m n ∙ (λ k. same_code (λ x y. same-map f w v keeps x y k) m n)

  module _ (p : M → Bool) (q : N → Bool) (e : (n : M) → q (f n) ≡ p n) where
    pub has_super-map : (m : EntryOf M) → has_super q (map_entry f m) ≡ has_super p m
    has_super-map m = any_node f (λ x. is_super_node p x.1) (λ x. is_super_node q x.1) (λ x. is_super_node-map f p q e x.1) m.tree.body

    pub is_same_method-map : (i j : ImageOf M) (m n : EntryOf M) → is_same_method v q (map_image f i) (map_image f j) (map_entry f m) (map_entry f n) ≡ is_same_method w p i j m n
    is_same_method-map i j m n =
        λ k. code-map m.tree n.tree k
        && ((not (has_super-map m k || has_super-map n k) || are_of_one_side-map m n k) && means_same_in-map i m j n k)

    is_same_found-map : (i j : ImageOf M) (o r : Option (EntryOf M)) → is_same_found v q (map_image f i) (map_image f j) (option_map (map_entry f) o) (option_map (map_entry f) r) ≡ is_same_found w p i j o r
    is_same_found-map i j None None = refl
    is_same_found-map i j None (Some n) = refl
    is_same_found-map i j (Some m) None = refl
    is_same_found-map i j (Some m) (Some n) = is_same_method-map i j m n

  module _ (i : ImageOf M) where
    pub implements-map : (c : M) (meta : Bool) (s : M) → implements v.tests.same (map_image f i) (f c) meta (f s) ≡ implements w.tests.same i c meta s
    implements-map c meta s = asked_of_method f w v keeps i.methods c meta s (λ (m : EntryOf M). not m.kernel) (λ (m : EntryOf N). not m.kernel) (λ m. refl)

    pub lacks_method-map : (c : M) (meta : Bool) (s : M) → lacks_method v.tests.same (map_image f i) (f c) meta (f s) ≡ lacks_method w.tests.same i c meta s
    lacks_method-map c meta s =
        λ j. is_class-map f w v keeps i c j && (ap is_none (own_method-there f w v keeps i.methods c meta s) ∙ none-map (map_entry f) (own_method w.tests.same i.methods c meta s)) j

    pub is_sent_nowhere-map : (s : M) → is_sent_nowhere v (map_image f i) (f s) ≡ is_sent_nowhere w i s
    is_sent_nowhere-map s = ap is_empty (senders-map f w v keeps i s)

    module _ (p : M → Bool) (q : N → Bool) (e : (n : M) → q (f n) ≡ p n) where
      pub is_removable-map : (c : M) (meta : Bool) (s : M) → is_removable v q (map_image f i) (f c) meta (f s) ≡ is_removable w p i c meta s
      is_removable-map c meta s =
          asked_of_method f w v keeps i.methods c meta s (λ m. is_sent_nowhere w i s || option_map_or (is_same_method w p i i m) (super_lookup w i (Some c) meta s) false)
          (λ m. is_sent_nowhere v (map_image f i) (f s) || option_map_or (is_same_method v q (map_image f i) (map_image f i) m) (super_lookup v (map_image f i) (Some (f c)) meta (f s)) false)
          (λ m. λ j. is_sent_nowhere-map s j || inherited m j)
        where
          inherited : (m : EntryOf M) → option_map_or (is_same_method v q (map_image f i) (map_image f i) (map_entry f m)) (super_lookup v (map_image f i) (Some (f c)) meta (f s)) false ≡ option_map_or (is_same_method w p i i m) (super_lookup w i (Some c) meta s) false
          inherited m =
              ap (λ (o : Option (EntryOf N)). option_map_or (is_same_method v q (map_image f i) (map_image f i) (map_entry f m)) o false) (super_lookup-there i (Some c) meta s)
              ∙ or-total (map_entry f) (is_same_method w p i i m) (is_same_method v q (map_image f i) (map_image f i) (map_entry f m)) false (is_same_method-map p q e i i m) (super_lookup w i (Some c) meta s)

      pub is_without_super-map : (c : M) (meta : Bool) (s : M) → is_without_super v q (map_image f i) (f c) meta (f s) ≡ is_without_super w p i c meta s
      is_without_super-map c meta s = asked_of_method f w v keeps i.methods c meta s (λ m. not (has_super p m)) (λ m. not (has_super q m)) (λ m. ap not (has_super-map p q e m))

      pub means_same_in_class-map : (c : M) (meta : Bool) (s d : M) → means_same_in_class v q (map_image f i) (f c) meta (f s) (f d) ≡ means_same_in_class w p i c meta s d
      means_same_in_class-map c meta s d =
          λ j. is_class-map f w v keeps i d j
          && asked_of_method f w v keeps i.methods c meta s (λ m. means_same_in w i m i (of_class_named m d)) (λ m. means_same_in v (map_image f i) m (map_image f i) (of_class_named m (f d))) (λ m. means_same_in-map i m i (of_class_named m d)) j

      -- a class whose superclass is that of a name
      pub is_above : (c : M) (o : Option M)
          → option_map_or (λ d. option_map_or (v.tests.same (f c)) (superclass_name v.tests.same (map_image f i) d) false) (option_map f o) false ≡ option_map_or (λ d. option_map_or (w.tests.same c) (superclass_name w.tests.same i d) false) o false
      is_above c o =
          or-total f (λ d. option_map_or (w.tests.same c) (superclass_name w.tests.same i d) false) (λ d. option_map_or (v.tests.same (f c)) (superclass_name v.tests.same (map_image f i) d) false) false
          (λ d. asked_of_superclass f w v keeps i d (w.tests.same c) (v.tests.same (f c)) (same-map f w v keeps c)) o

      -- messages to `super` in a method
      sends_to_super : (s : M) (m : EntryOf M) → list_any (λ x. is_super_sender q v.tests.same (f s) x.1) (nodes (map_entry f m).tree.body) ≡ list_any (λ x. is_super_sender p w.tests.same s x.1) (nodes m.tree.body)
      sends_to_super s m =
          any_node f (λ x. is_super_sender p w.tests.same s x.1) (λ x. is_super_sender q v.tests.same (f s) x.1) (λ x. is_super_sender-map f w.tests.same v.tests.same (same-map f w v keeps) p q e s x.1) m.tree.body

      begins_in-map : (c s : M) (m : EntryOf M) → begins_in v q (map_image f i) (f c) (f s) (map_entry f m) ≡ begins_in w p i c s m
      begins_in-map c s m = λ j. is_above c m.class j && sends_to_super s m j

      pub is_reached-map : (c s : M) → is_reached v q (map_image f i) (f c) (f s) ≡ is_reached w p i c s
      is_reached-map c s =
          λ j. not (is_empty (class_uses-map f w v keeps i c j))
          || any-total (map_entry f) (begins_in w p i c s) (begins_in v q (map_image f i) (f c) (f s)) (begins_in-map c s) i.methods j

      pub finds_another-map : (after : ImageOf M) (c : M) (meta : Bool) (s : M) → finds_another v q (map_image f i) (map_image f after) (f c) meta (f s) ≡ finds_another w p i after c meta s
      finds_another-map after c meta s =
          ap not ((λ j. is_same_found v q (map_image f i) (map_image f after) (lookup-there i (Some c) meta s j) (lookup-there after (Some c) meta s j))
          ∙ is_same_found-map p q e i after (lookup w i (Some c) meta s) (lookup w after (Some c) meta s))

      pub is_unreached-map : (after : ImageOf M) (meta : Bool) (s : M) → is_unreached v q (map_image f i) (map_image f after) meta (f s) ≡ is_unreached w p i after meta s
      is_unreached-map after meta s =
          λ j. is_sent_nowhere-map s j
          || not (any-total (map_class f) (λ (c : ClassOf M). finds_another w p i after c.name meta s && is_reached w p i c.name s)
          (λ (c : ClassOf N). finds_another v q (map_image f i) (map_image f after) c.name meta (f s) && is_reached v q (map_image f i) c.name (f s))
          (λ c. λ k. finds_another-map after c.name meta s k && is_reached-map c.name s k) i.classes j)
