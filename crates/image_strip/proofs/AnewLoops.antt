-- What one turn adds to slots that are made anew.
use Rattle.std.proofs.Common.{◌≡◌, ℕ, suc, ◌<◌, ◌+◌, Bool, true, false, List, [], ◌∷◌, ◌++◌, length, get_or, map, filter, take, Option, None, Some, slice_get, option_map, refl, sym, ap, subst, ◌∙◌, arith}
use Rattle.std.proofs.lemmas.List.{map-append}
use Rattle.std.proofs.lemmas.Option.{slice_get_read}
use Rattle.class_table.specs.declared.record.ClassRec.{ClassRec}
use Rattle.class_table.specs.declared.record.DoIt.{DoIt}
use Rattle.class_table.specs.declared.record.MethodRec.{MethodRec}
use Rattle.class_table.specs.Slots.{Slots}
use Rattle.class_table.specs.View.{live}
use Rattle.class_table.proofs.Live.{there}
use Rattle.class_table.proofs.OrderLemmas.{length-push}
use Rattle.image_strip.specs.Anew.{up_to, placed_class, placed_method, plus_class, plus_method, plus_doit, with_classes, with_methods}
use Rattle.image_strip.proofs.Places.{live-more, live-none, live-same-kept}
use Rattle.image_strip.proofs.Steps.{take-step}

-- one more slot at the end
up_to-push : {X : Type 0} (xs : List X) (x : X) → up_to (length xs) ++ length xs ∷ [] ≡ up_to (length (xs ++ x ∷ []))
up_to-push xs x = let more : suc (length xs) ≡ length (xs ++ x ∷ []) = omega (arith, length-push xs x) in ap up_to more

-- what was read stands there
pub is-at : (order xs : List ℕ) (i k : ℕ) → order ≡ xs → i < length order → k ≡ get_or order i k → slice_get xs i ≡ Some k
is-at order xs i k e h read = subst (λ (zs : List ℕ). slice_get zs i ≡ Some k) e (slice_get_read order (length order) i k refl h read)

module _ (t : Slots) where
  class-pushed : (u v : Slots) (xs : List ClassRec) (c : ClassRec) → u ≡ with_classes t xs → v ≡ plus_class u c → v ≡ with_classes t (xs ++ c ∷ [])
  class-pushed u v xs c before added =
      added ∙ ap (λ (w : Slots). plus_class w c) before ∙ ap (λ (order : List ℕ). record t { classes = xs ++ c ∷ []; class_order = order }) (up_to-push xs c)

  method-pushed : (u v : Slots) (xs : List MethodRec) (m : MethodRec) → u ≡ with_methods t xs → v ≡ plus_method u (Some m) → v ≡ with_methods t (xs ++ m ∷ [])
  method-pushed u v xs m before added =
      added ∙ ap (λ (w : Slots). plus_method w (Some m)) before ∙ ap (λ (order : List ℕ). record t { methods = xs ++ m ∷ []; method_order = order }) (up_to-push xs m)

  -- a turn for the slot at a place: what it holds is added where it is kept
  module _ (places : List ℕ) (p : ℕ → Bool) (order : List ℕ) (i k : ℕ) (h : i < length order) (read : k ≡ get_or order i k) (u v : Slots) where
    abbrev classes_before : List ClassRec → ℕ → List ClassRec
    classes_before xs n = map (placed_class places) (live xs (filter p (take n order)))

    abbrev methods_before : List MethodRec → ℕ → List MethodRec
    methods_before xs n = map (placed_method places) (live xs (filter p (take n order)))

    pub class-turn : (xs : List ClassRec) (c : ClassRec) → p k ≡ true → slice_get xs k ≡ Some c → u ≡ with_classes t (classes_before xs i)
        → v ≡ plus_class u (placed_class places c) → v ≡ with_classes t (classes_before xs (i + 1))
    class-turn xs c kept at before added =
        class-pushed u v (classes_before xs i) (placed_class places c) before added
        ∙ ap (with_classes t) (sym (map-append (placed_class places) (live xs (filter p (take i order))) (c ∷ [])) ∙ ap (map (placed_class places)) (sym (live-more p order i k h read xs c kept at)))

    pub class-left : (xs : List ClassRec) → p k ≡ false → u ≡ with_classes t (classes_before xs i) → u ≡ with_classes t (classes_before xs (i + 1))
    class-left xs kept before = before ∙ ap (λ (cs : List ClassRec). with_classes t (map (placed_class places) cs)) (sym (live-same-kept p order i k h read xs kept))

    pub method-left : (xs : List MethodRec) → p k ≡ false → u ≡ with_methods t (methods_before xs i) → u ≡ with_methods t (methods_before xs (i + 1))
    method-left xs kept before = before ∙ ap (λ (ms : List MethodRec). with_methods t (map (placed_method places) ms)) (sym (live-same-kept p order i k h read xs kept))

    pub method-turn : (xs : List MethodRec) → p k ≡ true → u ≡ with_methods t (methods_before xs i)
        → v ≡ plus_method u (option_map (placed_method places) (slice_get xs k)) → v ≡ with_methods t (methods_before xs (i + 1))
    method-turn xs kept before added = by (slice_get xs k) refl added
      where
        by : (o : Option MethodRec) → slice_get xs k ≡ o → v ≡ plus_method u (option_map (placed_method places) o) → v ≡ with_methods t (methods_before xs (i + 1))
        by None at is = is ∙ before ∙ ap (λ (ms : List MethodRec). with_methods t (map (placed_method places) ms)) (sym (live-none p order i k h read xs at))
        by (Some m) at is =
            method-pushed u v (methods_before xs i) (placed_method places m) before is
            ∙ ap (with_methods t) (sym (map-append (placed_method places) (live xs (filter p (take i order))) (m ∷ [])) ∙ ap (map (placed_method places)) (sym (live-more p order i k h read xs m kept at)))

-- one do-it more
pub doit-turn : (t u v : Slots) (ds : List DoIt) (n : ℕ) → n < length ds → u ≡ record t { doits = take n ds } → v ≡ plus_doit u (slice_get ds n) → v ≡ record t { doits = take (n + 1) ds }
doit-turn t u v ds n h before added =
    let at = there ds n h in
    let next : suc n ≡ n + 1 = omega arith in
    added ∙ ap (plus_doit u) at.1 ∙ ap (λ (w : Slots). plus_doit w (Some at.0)) before
    ∙ ap (λ (es : List DoIt). record t { doits = es }) (sym (take-step ds n at.0 at.1) ∙ ap (λ (m : ℕ). take m ds) next)
