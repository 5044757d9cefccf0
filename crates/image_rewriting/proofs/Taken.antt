-- The change of code of which a copy was taken, or none.
use Rattle.std.proofs.Common.{◌≡◌, ◌⊎◌, inl, inr, ℕ, zero, suc, ◌<◌, Bool, true, false, List, [], ◌∷◌, length, map, Option, None, Some, slice_get, refl, sym, ap, subst, ◌∙◌}
use Rattle.std.specs.Prelude.{if◌then◌else◌, nat_eq}
use Rattle.std.specs.List.{list_any, AllByRecursion}
use Rattle.rb_base.specs.Names.{name_at, HasNoTwice}
use Rattle.query_model.specs.Lines.{Text}
use Rattle.tree_model.specs.Tree.{map_method, map_sequence}
use Rattle.tree_model.specs.AllNames.{SequenceNames, MethodNames}
use Rattle.tree_model.proofs.AllNamesLemmas.{SequenceNames-implies, MethodNames-implies}
use Rattle.st_tree.specs.View.{method_of, sequence_of}
use Rattle.st_tree.specs.declared.tree.Sequence.{Sequence}
use Rattle.st_tree.specs.declared.tree.Method.{Method}
use Rattle.text_model.specs.Whole.{canonical_method, canonical_doit}
use Rattle.event_trees.specs.Naming.{Grows}
use Rattle.image_model.specs.ImageNames.{DoItNames}
use Rattle.class_table.specs.declared.record.MethodRec.{MethodRec}
use Rattle.class_table.specs.declared.record.DoIt.{DoIt}
use Rattle.class_table.specs.declared.record.Place.TheVariants as place
use Rattle.class_table.specs.Slots.{Slots}
use Rattle.class_table.specs.View.{live_at, doit_of}
use Rattle.class_table.specs.Valid.{IsLive, IsOrderly}
use Rattle.class_table.proofs.KeptLemmas.{method-fits}
use Rattle.change_set.specs.declared.change.Change.TheVariants as change
use Rattle.patterns.specs.declared.tree.Rule.{Rule}
use Rattle.image_rewriting.specs.Changed.{KnowsRule, Becomes, IsMade, HasNoMatch, IsCopy, IsBodyCopy}
use Rattle.image_rewriting.specs.Planned.{IsFound}
use Rattle.image_rewriting.proofs.Entries.{nothing-made}
use Rattle.image_rewriting.proofs.Found.{Stays, method-none, method-some, StaysDoIt, doit-none, doit-some}
use Rattle.image_rewriting.proofs.Grown.{longer}
use Rattle.image_rewriting.proofs.SameRule.{still-known}

some_same : {X : Type 0} {x y : X} → Some x ≡ Some y → x ≡ y
some_same e = cc

-- what a live slot holds
live_slot : {X : Type 0} (xs : List X) (order : List ℕ) (k : ℕ) (x : X) → live_at xs order k ≡ Some x → IsLive order k × (slice_get xs k ≡ Some x)
live_slot xs order k x e = by (list_any (nat_eq k) order) refl e
  where
    by : (b : Bool) → list_any (nat_eq k) order ≡ b → (if b then slice_get xs k else None) ≡ Some x → (list_any (nat_eq k) order ≡ true) × (slice_get xs k ≡ Some x)
    by true is f = (is, f)
    by false is f = absurd (cc)

-- the method in a slot
module _ (s : Slots) (r : Rule) (o : IsOrderly s) (knows : KnowsRule s.names r) (k : ℕ) where
  abbrev held : Option MethodRec
  held = live_at s.methods s.method_order k

  method_known : (m : MethodRec) → held ≡ Some m → MethodNames (λ n. n < length s.names) (method_of m.tree)
  method_known m e = let slot = live_slot s.methods s.method_order k m e in (method-fits s o k m slot.0 slot.1).names_known

  -- no copy was taken
  pub method-left : IsCopy s.names r held None → IsFound s s.names r (place.Method k) None
  method-left none = method-none s s.names r knows k (λ m e. stays m e (none m e))
    where
      stays : (m : MethodRec) → held ≡ Some m → (m.kernel ≡ true) ⊎ HasNoMatch s.names r m.tree.body → Stays s s.names r knows k m
      stays m e (inl kernel) = inl kernel
      stays m e (inr nowhere) = inr ((method_known m e).body, nothing-made s.names r m.tree.body o.names_distinct knows (method_known m e).body nowhere)

  -- one was
  module _ (copied : MethodRec) (is : IsCopy s.names r held (Some copied)) where
    -- its names have texts
    pub copy-known : MethodNames (λ n. n < length s.names) (method_of copied.tree)
    copy-known = subst (λ (c : MethodRec). MethodNames (λ n. n < length s.names) (method_of c.tree)) (sym is.3) (method_known is.0 is.1)

    module _ (names : List Text) (g : Grows s.names names) where
      knows_also : KnowsRule names r
      knows_also = still-known s.names names r g knows

      known_also : MethodNames (λ n. n < length names) (method_of is.0.tree)
      known_also = MethodNames-implies (λ n. n < length s.names) (λ n. n < length names) (longer s.names names g) (method_of is.0.tree) (method_known is.0 is.1)

      -- an equal body is made of it
      pub method-same : Becomes names r copied.tree.body None → IsFound s names r (place.Method k) None
      method-same equal = method-none s names r knows_also k (λ m e. inr (stays m (some_same (sym is.1 ∙ e))))
        where
          stays : (m : MethodRec) → is.0 ≡ m → SequenceNames (λ n. n < length names) (sequence_of m.tree.body) × Becomes names r m.tree.body None
          stays m same =
              subst (λ (x : MethodRec). SequenceNames (λ n. n < length names) (sequence_of x.tree.body) × Becomes names r x.tree.body None) same
              (known_also.body, subst (λ (x : MethodRec). Becomes names r x.tree.body None) is.3 equal)

      -- another body is
      module _ (c : Sequence) (made : Becomes names r copied.tree.body (Some c)) where
        pub made-known : MethodNames (λ n. n < length names) (method_of (record copied.tree { body = c }))
        made-known =
            let wide = MethodNames-implies (λ n. n < length s.names) (λ n. n < length names) (longer s.names names g) (method_of copied.tree) copy-known in
            record { selector = wide.selector; arguments = wide.arguments; body = made.known }

        pub method-made : (source : Text) → source ≡ canonical_method (map_method (name_at names) (method_of (record copied.tree { body = c })))
            → IsFound s names r (place.Method k) (Some (change.Method k (record copied { tree = record copied.tree { body = c }; source = source })))
        method-made source text =
            method-some s names r knows_also k is.0 copied is.1 is.2 is.3 known_also c (subst (λ (x : MethodRec). IsMade names r x.tree.body c) is.3 made) source text

-- each name in a do-it has a text
doit_known : (P : ℕ → Type 0) (xs : List DoIt) (n : ℕ) (d : DoIt) → AllByRecursion (DoItNames P) (map doit_of xs) → slice_get xs n ≡ Some d → SequenceNames P (sequence_of d.body)
doit_known P [] n d a e = absurd (cc)
doit_known P (x ∷ xs) zero d a e = let same : x ≡ d = cc in subst (λ (y : DoIt). SequenceNames P (sequence_of y.body)) same a.0
doit_known P (x ∷ xs) (suc n) d a e = doit_known P xs n d a.1 e

-- the do-it of a number
module _ (s : Slots) (r : Rule) (o : IsOrderly s) (knows : KnowsRule s.names r) (n : ℕ) where
  body_known : (d : DoIt) → slice_get s.doits n ≡ Some d → SequenceNames (λ k. k < length s.names) (sequence_of d.body)
  body_known d e = doit_known (λ k. k < length s.names) s.doits n d o.names_known.doits e

  -- no copy was taken
  pub doit-left : IsBodyCopy s.names r (slice_get s.doits n) None → IsFound s s.names r (place.DoIt n) None
  doit-left none = doit-none s s.names r knows n (λ d e. (body_known d e, nothing-made s.names r d.body o.names_distinct knows (body_known d e) (none d e)))

  -- one was
  module _ (copied : Sequence) (is : IsBodyCopy s.names r (slice_get s.doits n) (Some copied)) where
    pub copied-known : SequenceNames (λ k. k < length s.names) (sequence_of copied)
    copied-known = subst (λ (b : Sequence). SequenceNames (λ k. k < length s.names) (sequence_of b)) (sym is.2) (body_known is.0 is.1)

    module _ (names : List Text) (g : Grows s.names names) where
      doit_knows_also : KnowsRule names r
      doit_knows_also = still-known s.names names r g knows

      doit_known_also : SequenceNames (λ k. k < length names) (sequence_of is.0.body)
      doit_known_also = SequenceNames-implies (λ k. k < length s.names) (λ k. k < length names) (longer s.names names g) (sequence_of is.0.body) (body_known is.0 is.1)

      -- an equal body is made of it
      pub doit-same : Becomes names r copied None → IsFound s names r (place.DoIt n) None
      doit-same equal = doit-none s names r doit_knows_also n (λ d e. stays d (some_same (sym is.1 ∙ e)))
        where
          stays : (d : DoIt) → is.0 ≡ d → StaysDoIt s names r doit_knows_also n d
          stays d same =
              subst (λ (x : DoIt). SequenceNames (λ k. k < length names) (sequence_of x.body) × Becomes names r x.body None) same
              (doit_known_also, subst (λ (b : Sequence). Becomes names r b None) is.2 equal)

      -- another body is
      pub doit-made : (c : Sequence) → Becomes names r copied (Some c) → (source : Text) → source ≡ canonical_doit (map_sequence (name_at names) (sequence_of c))
          → IsFound s names r (place.DoIt n) (Some (change.DoIt n (record { source = source; body = c })))
      doit-made c made source text = doit-some s names r doit_knows_also n is.0 is.1 doit_known_also c (subst (λ (b : Sequence). IsMade names r b c) is.2 made) source text
