-- The reads of an argument, gathered one by one.
use Rattle.std.proofs.Common.{◌≡◌, ℕ, ◌-◌, ◌&&◌, ◌||◌, not, Bool, true, false, cond, List, [], ◌∷◌, map, Option, None, Some, option_map, slice_get, refl, sym, ap, ◌∙◌}
use Rattle.std.specs.Prelude.{nat_eq, filter}
use Rattle.std.specs.List.{flat_map}
use Rattle.std.specs.Option.{option_map_or}
use Rattle.std.proofs.lemmas.List.Folds.{flat_map-map}
use Rattle.tree_model.specs.Tree.{MethodOf}
use Rattle.tree_model.specs.Nodes.{Placed, nodes}
use Rattle.placed_nodes.specs.declared.placed.PlacedNode.{PlacedNode}
use Rattle.placed_nodes.specs.Placing.{placed}
use Rattle.st_tree.specs.declared.tree.Method.{Method}
use Rattle.st_tree.specs.View.{method_of}
use Rattle.image_model.specs.Image.{EntryOf}
use Rattle.image_model.specs.Nodes.{in_method}
use Rattle.class_table.specs.declared.record.MethodInfo.{MethodInfo}
use Rattle.class_table.specs.declared.record.MethodRec.{MethodRec}
use Rattle.class_table.specs.Info.{IsInfoOf}
use Rattle.class_table.specs.Slots.{Slots}
use Rattle.class_table.specs.View.{entry_of, live_at, number_image}
use Rattle.class_questions.proofs.AnyLive.{live-live_at}
use Rattle.command_model.specs.ParameterConditions.{formal_reads}
use Rattle.commands.specs.Views.{asked_by}
use Rattle.parameter_questions.specs.Found.{reads}
use Rattle.parameter_questions.proofs.Reading.{formal_at, reads_formal, same-read}
use Rattle.refusal_witnesses.specs.ParameterWitnesses.{argument_reads_in}
use Rattle.refusal_witnesses.specs.Witnesses.{OwnerOf, AtPlace, InMethod, WitnessOf, AWhole, a_method, a_node, where_true}
use Rattle.witness_lists.specs.declared.witness.Owner.TheVariants as owner
use Rattle.witness_lists.specs.Views.{owner_of}
use Rattle.witness_lists.proofs.Lists.{where-filter}
use Rattle.use_witnesses.specs.Arguments.{slot_reads}

-- what is kept twice, by a test that agrees with both
filter-twice : {X Y : Type 0} (h : X → Y) (p q r : X → Bool) → ((x : X) → (p x && q x) ≡ r x) → (xs : List X) → map h (filter q (filter p xs)) ≡ map h (filter r xs)
filter-twice h p q r same [] = refl
filter-twice h p q r same (x ∷ xs) = by (p x) (filter-twice h p q r same xs) ∙ ap (λ (b : Bool). map h (cond b (x ∷ filter r xs) (filter r xs))) (same x)
  where
    at : (c : Bool) → map h (filter q (filter p xs)) ≡ map h (filter r xs) → map h (cond c (x ∷ filter q (filter p xs)) (filter q (filter p xs))) ≡ map h (cond c (x ∷ filter r xs) (filter r xs))
    at true rest = ap (λ ys. h x ∷ ys) rest
    at false rest = rest

    by : (b : Bool) → map h (filter q (filter p xs)) ≡ map h (filter r xs) → map h (filter q (cond b (x ∷ filter p xs) (filter p xs))) ≡ map h (cond (b && q x) (x ∷ filter r xs) (filter r xs))
    by false rest = rest
    by true rest = at (q x) rest

mapped-twice : {X Y Z : Type 0} (g : Y → Z) (f : X → Y) (xs : List X) → map (λ x. g (f x)) xs ≡ map g (map f xs)
mapped-twice g f [] = refl
mapped-twice g f (x ∷ xs) = ap (λ ys. g (f x) ∷ ys) (mapped-twice g f xs)

module _ (names : List (List ℕ)) (m : MethodOf ℕ) (x : ℕ) (o : OwnerOf ℕ) where
  -- the nodes that read the name as an argument of the method itself
  pub reads-told : (found : List PlacedNode) → placed found ≡ filter (λ (e : Placed ℕ). reads x e.1) (nodes m.body)
      → flat_map (λ (p : PlacedNode). where_true (formal_at names m x p.path x) (a_node o p.path)) found ≡ map (a_node o) (formal_reads (asked_by names) m x)
  reads-told found e =
      sym (flat_map-map (λ (y : Placed ℕ). where_true (formal_at names m x y.0 x) (a_node o y.0)) (λ (p : PlacedNode). (p.path, p.node.now)) found)
      ∙ ap (flat_map (λ (y : Placed ℕ). where_true (formal_at names m x y.0 x) (a_node o y.0))) e
      ∙ where-filter (λ (y : Placed ℕ). formal_at names m x y.0 x) (λ (y : Placed ℕ). a_node o y.0) (filter (λ (y : Placed ℕ). reads x y.1) (nodes m.body))
      ∙ filter-twice (λ (y : Placed ℕ). a_node o y.0) (λ (y : Placed ℕ). reads x y.1) (λ (y : Placed ℕ). formal_at names m x y.0 x) (reads_formal names m x) (same-read names m x) (nodes m.body)
      ∙ mapped-twice (a_node o) (λ (y : Placed ℕ). y.0) (filter (reads_formal names m x) (nodes m.body))

module _ (s : Slots) (selector argument slot : ℕ) where
  -- the reads of the argument in a method for the selector, by the name of the argument
  abbrev pub named_reads : EntryOf ℕ → Option ℕ → List (WitnessOf ℕ)
  named_reads m o = option_map_or (λ x. map (a_node (InMethod m)) (formal_reads (asked_by s.names) m.tree x)) o (a_method m ∷ [])

  -- the slot is not live
  pub unread-slot : IsInfoOf None (live_at s.methods s.method_order slot) → [] ≡ slot_reads s selector argument slot
  unread-slot = by (live_at s.methods s.method_order slot)
    where
      by : (o : Option MethodRec) → IsInfoOf None o → [] ≡ option_map_or (λ (m : MethodRec). argument_reads_in (asked_by s.names) (number_image s) selector argument (entry_of s.classes m)) o []
      by None t = refl
      by (Some m) t = absurd t

  module _ (info : MethodInfo) (t : IsInfoOf (Some info) (live_at s.methods s.method_order slot)) where
    -- the method is not asked
    pub unasked : (info.kernel || not (nat_eq selector info.selector)) ≡ true → [] ≡ slot_reads s selector argument slot
    unasked e = by (live_at s.methods s.method_order slot) t
      where
        by : (o : Option MethodRec) → IsInfoOf (Some info) o → [] ≡ option_map_or (λ (m : MethodRec). argument_reads_in (asked_by s.names) (number_image s) selector argument (entry_of s.classes m)) o []
        by None i = absurd i
        by (Some m) i =
            ap (λ (b : Bool). cond b [] (named_reads (entry_of s.classes m) (slice_get (entry_of s.classes m).tree.arguments (argument - 1))))
            (sym e ∙ (λ j. i.kernel j || not (nat_eq selector (i.selector j))))

    -- it is
    pub asked : (info.kernel || not (nat_eq selector info.selector)) ≡ false → (tree : Method) → Some tree ≡ option_map (λ (m : MethodRec). m.tree) (live_at s.methods s.method_order slot)
        → (found : Option ℕ) → slice_get (method_of tree).arguments (argument - 1) ≡ found
        → option_map_or (λ x. map (a_node (owner_of s (owner.Method slot))) (formal_reads (asked_by s.names) (method_of tree) x)) found (where_true true (AWhole (owner_of s (owner.Method slot)))) ≡ slot_reads s selector argument slot
    asked e tree opened found q = by (live_at s.methods s.method_order slot) refl t opened
      where
        by : (o : Option MethodRec) → live_at s.methods s.method_order slot ≡ o → IsInfoOf (Some info) o → Some tree ≡ option_map (λ (m : MethodRec). m.tree) o
            → option_map_or (λ x. map (a_node (owner_of s (owner.Method slot))) (formal_reads (asked_by s.names) (method_of tree) x)) found (where_true true (AWhole (owner_of s (owner.Method slot))))
            ≡ option_map_or (λ (m : MethodRec). argument_reads_in (asked_by s.names) (number_image s) selector argument (entry_of s.classes m)) o []
        by None r i held = absurd i
        by (Some m) r i held =
            let same : tree ≡ m.tree = cc in
            let place : owner_of s (owner.Method slot) ≡ InMethod (entry_of s.classes m) =
            ap (λ (o : Option MethodRec). option_map_or InMethod (option_map (entry_of s.classes) o) (AtPlace (in_method slot))) (live-live_at s.methods s.method_order slot m r).1 in
            (λ j. option_map_or (λ x. map (a_node (place j)) (formal_reads (asked_by s.names) (method_of (same j)) x)) (sym q j) (where_true true (AWhole (place j))))
            ∙ ap (λ (u : Method). option_map_or (λ x. map (a_node (InMethod (entry_of s.classes m))) (formal_reads (asked_by s.names) (method_of m.tree) x)) (slice_get (method_of u).arguments (argument - 1)) (a_method (entry_of s.classes m) ∷ [])) same
            ∙ ap (λ (b : Bool). cond b [] (named_reads (entry_of s.classes m) (slice_get (entry_of s.classes m).tree.arguments (argument - 1))))
            (sym e ∙ (λ j. i.kernel j || not (nat_eq selector (i.selector j))))
