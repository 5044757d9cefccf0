-- The method that is found for a class, a side and a selector, where no two methods have all three.
use Rattle.std.proofs.Common.{◌≡◌, ℕ, List, Option, Some, None, slice_get, sym, ap, ◌∙◌, subst}
use Rattle.std.specs.Prelude.{Bool, true, false, ◌&&◌, map, option_map}
use Rattle.std.specs.Option.{option_map_or}
use Rattle.std.specs.Cmp.{booleans_Decides}
use Rattle.std.proofs.Math.Bool.{beq}
use Rattle.std.proofs.lemmas.Bool.{false≢true}
use Rattle.std.proofs.lemmas.Option.{slice_get-map}
use Rattle.rb_base.specs.Names.{text_eq}
use Rattle.image_model.specs.Image.{EntryOf}
use Rattle.image_model.specs.ImageNames.{OptionNames}
use Rattle.image_model.specs.Lookup.{is_method, own_method}
use Rattle.image_model.specs.Valid.{HasNoRepeat, signature}
use Rattle.image_model.proofs.Ends.{find-place}
use Rattle.run_model.specs.Values.{Name}
use Rattle.run_model.proofs.Finite.{and-true_left, and-true_right}
use Rattle.run_model.proofs.RenamingLemmas.{text-same}
use Rattle.rename_laws.proofs.OutsideAfter.{find-passes}

module _ (c : Name) (meta : Bool) (s : Name) where
  -- the class, the side and the selector of the method
  signed : (m : EntryOf Name) → is_method text_eq c meta s m ≡ true → signature m ≡ (Some c, meta, s)
  signed m h =
      let front = and-true_left (option_map_or (text_eq c) m.class false && beq meta m.meta) (text_eq s m.tree.selector) h in
      let class : m.class ≡ Some c = by m.class (and-true_left (option_map_or (text_eq c) m.class false) (beq meta m.meta) front) in
      let side : m.meta ≡ meta = sym ((booleans_Decides meta m.meta).0 (and-true_right (option_map_or (text_eq c) m.class false) (beq meta m.meta) front)) in
      let selector : m.tree.selector ≡ s = sym (text-same s m.tree.selector (and-true_right (option_map_or (text_eq c) m.class false && beq meta m.meta) (text_eq s m.tree.selector) h)) in
      λ k. (class k, side k, selector k)
    where
      by : (o : Option Name) → option_map_or (text_eq c) o false ≡ true → o ≡ Some c
      by None e = absurd (false≢true e)
      by (Some d) e = ap Some (sym (text-same c d e))

  -- a method that has them is the one that is found
  pub found-one : (ms : List (EntryOf Name)) → HasNoRepeat (map signature ms) → (k : ℕ) (m : EntryOf Name) → slice_get ms k ≡ Some m → is_method text_eq c meta s m ≡ true → (n : EntryOf Name) → own_method text_eq ms c meta s ≡ Some n → n ≡ m
  found-one ms once k m at h n q =
      let there = find-place (is_method text_eq c meta s) ms n q in
      let passes = subst (OptionNames (λ (e : EntryOf Name). is_method text_eq c meta s e ≡ true)) q (find-passes (is_method text_eq c meta s) ms) in
      let same : there.0 ≡ k =
      once there.0 k (Some c, meta, s) (slice_get-map signature ms there.0 ∙ ap (option_map signature) there.1 ∙ ap Some (signed n passes))
      (slice_get-map signature ms k ∙ ap (option_map signature) at ∙ ap Some (signed m h)) in
      let both : Some n ≡ Some m = sym there.1 ∙ ap (slice_get ms) same ∙ at in
      cc
