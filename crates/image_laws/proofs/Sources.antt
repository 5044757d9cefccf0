-- Sources and trees that are swapped, and swapped back.
use Rattle.std.proofs.Common.{◌≡◌, ℕ, List, Option, None, Some, option_map, slice_get, refl, sym, ap}
use Rattle.st_tree.specs.declared.tree.Method.{Method}
use Rattle.st_tree.specs.declared.tree.Sequence.{Sequence}
use Rattle.class_table.specs.declared.record.MethodRec.{MethodRec}
use Rattle.class_table.specs.declared.record.DoIt.{DoIt}
use Rattle.class_table.specs.declared.record.Place.{Place}
use Rattle.class_table.specs.declared.record.Place.TheVariants as place
use Rattle.class_table.specs.Slots.{Slots}
use Rattle.class_table.specs.Changing.{with_source, source_in}
use Rattle.class_table.specs.Lending.{with_tree, with_body}
use Rattle.image_laws.proofs.Lists.{get-changed_at, changed_at-back}

module _ (s : Slots) where
  -- a source that is swapped, and swapped back
  pub source-back : (at : Place) (former other : List ℕ) → source_in s at ≡ Some former → with_source (with_source s at other) at former ≡ s
  source-back (place.Method k) former other e = by (slice_get s.methods k) refl e
    where
      by : (o : Option MethodRec) → slice_get s.methods k ≡ o → option_map (λ (m : MethodRec). m.source) o ≡ Some former → with_source (with_source s (place.Method k) other) (place.Method k) former ≡ s
      by None q h = absurd (cc)
      by (Some m) q h =
          let same : m.source ≡ former = cc in
          ap (λ (xs : List MethodRec). record s { methods = xs }) (changed_at-back (λ (x : MethodRec). record x { source = other }) (λ (x : MethodRec). record x { source = former }) s.methods k m q (ap (λ (t : List ℕ). record m { source = t }) (sym same)))
  source-back (place.DoIt n) former other e = by (slice_get s.doits n) refl e
    where
      by : (o : Option DoIt) → slice_get s.doits n ≡ o → option_map (λ (d : DoIt). d.source) o ≡ Some former → with_source (with_source s (place.DoIt n) other) (place.DoIt n) former ≡ s
      by None q h = absurd (cc)
      by (Some d) q h =
          let same : d.source ≡ former = cc in
          ap (λ (xs : List DoIt). record s { doits = xs }) (changed_at-back (λ (x : DoIt). record x { source = other }) (λ (x : DoIt). record x { source = former }) s.doits n d q (ap (λ (t : List ℕ). record d { source = t }) (sym same)))

  -- the source that was swapped in stands there
  pub source-there : (at : Place) (former other : List ℕ) → source_in s at ≡ Some former → source_in (with_source s at other) at ≡ Some other
  source-there (place.Method k) former other e = by (slice_get s.methods k) refl e
    where
      by : (o : Option MethodRec) → slice_get s.methods k ≡ o → option_map (λ (m : MethodRec). m.source) o ≡ Some former → source_in (with_source s (place.Method k) other) (place.Method k) ≡ Some other
      by None q h = absurd (cc)
      by (Some m) q h = ap (option_map (λ (x : MethodRec). x.source)) (get-changed_at (λ (x : MethodRec). record x { source = other }) s.methods k m q)
  source-there (place.DoIt n) former other e = by (slice_get s.doits n) refl e
    where
      by : (o : Option DoIt) → slice_get s.doits n ≡ o → option_map (λ (d : DoIt). d.source) o ≡ Some former → source_in (with_source s (place.DoIt n) other) (place.DoIt n) ≡ Some other
      by None q h = absurd (cc)
      by (Some d) q h = ap (option_map (λ (x : DoIt). x.source)) (get-changed_at (λ (x : DoIt). record x { source = other }) s.doits n d q)

  -- a tree that is replaced, and put back
  pub tree-back : (k : ℕ) (m : MethodRec) (other : Method) → slice_get s.methods k ≡ Some m → with_tree (with_tree s k other) k m.tree ≡ s
  tree-back k m other e = ap (λ (xs : List MethodRec). record s { methods = xs }) (changed_at-back (λ (x : MethodRec). record x { tree = other }) (λ (x : MethodRec). record x { tree = m.tree }) s.methods k m e refl)

  pub body-back : (n : ℕ) (d : DoIt) (other : Sequence) → slice_get s.doits n ≡ Some d → with_body (with_body s n other) n d.body ≡ s
  body-back n d other e = ap (λ (xs : List DoIt). record s { doits = xs }) (changed_at-back (λ (x : DoIt). record x { body = other }) (λ (x : DoIt). record x { body = d.body }) s.doits n d e refl)
