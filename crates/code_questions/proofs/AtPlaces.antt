-- What is asked of the code of an image can be asked of the places that are listed under a name.
use Rattle.std.proofs.Common.{◌≡◌, ◌⊎◌, inl, inr, ℕ, ◌||◌, Bool, true, false, List, [], map, Option, None, Some, slice_get, refl, sym, ap, subst, ◌∙◌, true≢false}
use Rattle.std.specs.Prelude.{Contains, nat_eq}
use Rattle.std.specs.List.{list_any}
use Rattle.std.specs.Option.{option_map_or}
use Rattle.std.proofs.lemmas.Bool.{or_cases, or_left, or_right}
use Rattle.std.proofs.lemmas.List.Folds.{list_any_at}
use Rattle.st_tree.specs.View.{method_of, sequence_of}
use Rattle.image_model.specs.Image.{EntryOf, DoItOf}
use Rattle.class_table.specs.declared.record.MethodRec.{MethodRec}
use Rattle.class_table.specs.declared.record.DoIt.{DoIt}
use Rattle.class_table.specs.declared.record.Place.{Place}
use Rattle.class_table.specs.declared.record.Place.TheVariants as place
use Rattle.class_table.specs.Slots.{Slots}
use Rattle.class_table.specs.View.{entry_of, doit_of, live_at, number_image}
use Rattle.mentions.specs.Mentions.{code_names, method_names}
use Rattle.reference_index.specs.Mentioned.{Mentioned, IsIndexOf, ListsPlaces, names_at}
use Rattle.class_questions.proofs.AnyLive.{any_live, live-live_at}
use Rattle.code_questions.specs.Places.{passes_at}
use Rattle.code_questions.proofs.Witnesses.{same-truth, passing, passing-live, passes-live, passes-mapped, passing-mapped}

module _ (tm : EntryOf ℕ → Bool) (td : DoItOf ℕ → Bool) (s : Slots) where
  -- code of the image that passes stands at a place
  pub some-place : (list_any tm (number_image s).methods || list_any td (number_image s).doits) ≡ true → (p : Place) × (passes_at tm td s p ≡ true)
  some-place e = by (or_cases (list_any tm (number_image s).methods) (list_any td (number_image s).doits) e)
    where
      by : (list_any tm (number_image s).methods ≡ true) ⊎ (list_any td (number_image s).doits ≡ true) → (p : Place) × (passes_at tm td s p ≡ true)
      by (inl h) =
          let w = passing-live (λ k. passes_at tm td s (place.Method k)) s.method_order (any_live (entry_of s.classes) tm s.methods s.method_order ∙ h) in
          (place.Method w.0, w.2)
      by (inr h) =
          let w = passing-mapped doit_of td s.doits h in
          (place.DoIt w.0, ap (λ (o : Option DoIt). option_map_or (λ (d : DoIt). td (doit_of d)) o false) w.2 ∙ w.3)

  -- code at a place that passes is some of the image
  pub in-image : (p : Place) → passes_at tm td s p ≡ true → (list_any tm (number_image s).methods || list_any td (number_image s).doits) ≡ true
  in-image (place.Method k) e =
      or_left (list_any tm (number_image s).methods) (list_any td (number_image s).doits)
      (sym (any_live (entry_of s.classes) tm s.methods s.method_order) ∙ passes-live (λ j. passes_at tm td s (place.Method j)) s.method_order k (live (live_at s.methods s.method_order k) refl e) e)
    where
      live : (o : Option MethodRec) → live_at s.methods s.method_order k ≡ o → option_map_or (λ (m : MethodRec). tm (entry_of s.classes m)) o false ≡ true → list_any (nat_eq k) s.method_order ≡ true
      live None q t = absurd (true≢false (sym t))
      live (Some m) q t = (live-live_at s.methods s.method_order k m q).0
  in-image (place.DoIt n) e =
      or_right (list_any tm (number_image s).methods) (list_any td (number_image s).doits) (by (slice_get s.doits n) refl e)
    where
      by : (o : Option DoIt) → slice_get s.doits n ≡ o → option_map_or (λ (d : DoIt). td (doit_of d)) o false ≡ true → list_any td (number_image s).doits ≡ true
      by None q t = absurd (true≢false (sym t))
      by (Some d) q t = passes-mapped doit_of td s.doits n d q t

  module _ (n : ℕ) (only-m : (m : EntryOf ℕ) → tm m ≡ true → Contains (method_names m.tree) n) (only-d : (d : DoItOf ℕ) → td d ≡ true → Contains (code_names d.body) n) where
    -- where tests pass only in code that mentions the name, the code at a place that passes mentions it
    mentioned-at : (p : Place) → passes_at tm td s p ≡ true → Contains (names_at s p) n
    mentioned-at (place.Method k) = by (live_at s.methods s.method_order k)
      where
        by : (o : Option MethodRec) → option_map_or (λ (m : MethodRec). tm (entry_of s.classes m)) o false ≡ true → Contains (option_map_or (λ (m : MethodRec). method_names (method_of m.tree)) o []) n
        by None t = absurd (true≢false (sym t))
        by (Some m) t = only-m (entry_of s.classes m) t
    mentioned-at (place.DoIt k) = by (slice_get s.doits k)
      where
        by : (o : Option DoIt) → option_map_or (λ (d : DoIt). td (doit_of d)) o false ≡ true → Contains (option_map_or (λ (d : DoIt). code_names (sequence_of d.body)) o []) n
        by None t = absurd (true≢false (sym t))
        by (Some d) t = only-d (doit_of d) t

    -- so it is enough to ask the places that are listed under the name
    pub listed-any : (x : Mentioned) (places : List Place) → IsIndexOf s x → ListsPlaces x n places
        → list_any (passes_at tm td s) places ≡ (list_any tm (number_image s).methods || list_any td (number_image s).doits)
    listed-any x places index lists =
        same-truth (list_any (passes_at tm td s) places) (list_any tm (number_image s).methods || list_any td (number_image s).doits)
        (λ e. let w = passing (passes_at tm td s) places e in in-image w.1 w.3)
        (λ e.
        let w = some-place e in
        let c = (lists.members w.0).1 (((index w.0).members n).1 (mentioned-at w.0 w.1)) in
        list_any_at (passes_at tm td s) places c.0 w.0 c.1 (ap (passes_at tm td s) c.2 ∙ w.1))
