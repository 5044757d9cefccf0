-- What is told of the code at a place, and of what was made of it.
use Rattle.std.proofs.Common.{◌≡◌, ℕ, ◌&&◌, Bool, true, false, not, [], Option, None, Some, slice_get, option_map, refl, sym, ap, ◌∙◌}
use Rattle.std.specs.Borrow.{Bor}
use Rattle.std.specs.Option.{option_copied, option_map_or}
use Rattle.tree_model.specs.Tree.{SequenceOf}
use Rattle.image_model.specs.Image.{EntryOf}
use Rattle.st_tree.specs.View.{sequence_of, method_of}
use Rattle.st_tree.specs.declared.tree.Method.{Method}
use Rattle.st_tree.specs.declared.tree.Sequence.{Sequence}
use Rattle.class_table.specs.declared.record.MethodRec.{MethodRec}
use Rattle.class_table.specs.declared.record.MethodInfo.{MethodInfo}
use Rattle.class_table.specs.declared.record.DoIt.{DoIt}
use Rattle.class_table.specs.declared.record.Place.TheVariants as place
use Rattle.class_table.specs.Info.{IsInfoOf}
use Rattle.class_table.specs.Slots.{Slots}
use Rattle.class_table.specs.View.{live_at, class_name, entry_of, doit_of}
use Rattle.abstracted_code.specs.declared.abstraction.Abstraction.{Abstraction}
use Rattle.abstracted_code.specs.Abstracted.{method_after, body_after}
use Rattle.parameter_questions.specs.Questions.{is_high}
use Rattle.code_conditions.specs.HighCode.{is_tree_high, is_method_high, is_doit_high, is_place_high}

module _ (s : Slots) (a : Abstraction) (k : ℕ) where
  -- whether the method of a record, if there is one, is high then
  abbrev high_of : Option MethodRec → Bool
  high_of o = option_map_or (λ (m : MethodRec). is_method_high s a (entry_of s.classes m)) o false

  -- there is none
  pub none-told : IsInfoOf None (live_at s.methods s.method_order k) → false ≡ is_place_high s a (place.Method k)
  none-told = by (live_at s.methods s.method_order k)
    where
      by : (o : Option MethodRec) → IsInfoOf None o → false ≡ high_of o
      by None t = refl
      by (Some m) t = absurd t

  module _ (info : MethodInfo) (told : IsInfoOf (Some info) (live_at s.methods s.method_order k)) where
    -- it is one of the kernel
    pub kernel-told : info.kernel ≡ true → false ≡ is_place_high s a (place.Method k)
    kernel-told e = by (live_at s.methods s.method_order k) told
      where
        by : (o : Option MethodRec) → IsInfoOf (Some info) o → false ≡ high_of o
        by None t = refl
        by (Some m) t = ap (λ (b : Bool). not b && is_tree_high (method_after s a (entry_of s.classes m))) (sym e ∙ t.kernel)

    -- it is one of the user
    module _ (tree : Bor Method) (lent : option_copied (Some tree) ≡ option_map (λ (m : MethodRec). m.tree) (live_at s.methods s.method_order k)) (user : info.kernel ≡ false)
        (made : Option Method) (is_made : option_map method_of made ≡ method_after s a (record { class = class_name s.classes info.class; meta = info.meta; protocol = []; source = []; tree = method_of tree.now; kernel = false })) where
      method-told : is_place_high s a (place.Method k) ≡ is_tree_high (option_map method_of made)
      method-told = by (live_at s.methods s.method_order k) told lent
        where
          by : (o : Option MethodRec) → IsInfoOf (Some info) o → option_copied (Some tree) ≡ option_map (λ (m : MethodRec). m.tree) o → high_of o ≡ is_tree_high (option_map method_of made)
          by None t l = absurd t
          by (Some m) t l =
              let same : m.tree ≡ tree.now = cc in
              (λ j.
              let e : EntryOf ℕ = record { class = class_name s.classes (sym t.class j); meta = sym t.meta j; protocol = m.protocol; source = m.source; tree = method_of (same j); kernel = sym t.kernel j } in
              not (sym t.kernel j) && is_tree_high (method_after s a e))
              ∙ (λ j. not (user j) && is_tree_high (sym is_made j))

      pub stays-told : made ≡ None → false ≡ is_place_high s a (place.Method k)
      stays-told none = sym (method-told ∙ ap (λ (o : Option Method). is_tree_high (option_map method_of o)) none)

      pub made-told : (new : Method) → made ≡ Some new → (high : Bool) → high ≡ is_high (sequence_of new.body) → high ≡ is_place_high s a (place.Method k)
      made-told new some high is = is ∙ sym (method-told ∙ ap (λ (o : Option Method). is_tree_high (option_map method_of o)) some)

-- a do-it
module _ (s : Slots) (a : Abstraction) (n : ℕ) (body : Bor Sequence) (lent : option_copied (Some body) ≡ option_map (λ (d : DoIt). d.body) (slice_get s.doits n))
    (made : Option Sequence) (is_made : option_map sequence_of made ≡ body_after s a (sequence_of body.now)) where
  doit-told : is_place_high s a (place.DoIt n) ≡ option_map_or is_high (option_map sequence_of made) false
  doit-told = by (slice_get s.doits n) lent
    where
      by : (o : Option DoIt) → option_copied (Some body) ≡ option_map (λ (d : DoIt). d.body) o
          → option_map_or (λ (d : DoIt). is_doit_high s a (doit_of d)) o false ≡ option_map_or is_high (option_map sequence_of made) false
      by None l = absurd (cc)
      by (Some d) l =
          let same : d.body ≡ body.now = cc in
          (λ j. option_map_or is_high (body_after s a (sequence_of (same j))) false) ∙ ap (λ (o : Option (SequenceOf ℕ)). option_map_or is_high o false) (sym is_made)

  pub doit-stays-told : made ≡ None → false ≡ is_place_high s a (place.DoIt n)
  doit-stays-told none = sym (doit-told ∙ ap (λ (o : Option Sequence). option_map_or is_high (option_map sequence_of o) false) none)

  pub doit-made-told : (new : Sequence) → made ≡ Some new → (high : Bool) → high ≡ is_high (sequence_of new) → high ≡ is_place_high s a (place.DoIt n)
  doit-made-told new some high is = is ∙ sym (doit-told ∙ ap (λ (o : Option Sequence). option_map_or is_high (option_map sequence_of o) false) some)
