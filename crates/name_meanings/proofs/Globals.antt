-- What a name stands for that is no variable.
use Rattle.std.proofs.Common.{◌≡◌, ℕ, Bool, true, false, cond, is_some, true≢false, Option, Some, None, slice_get, option_map, refl, sym, ap, ◌∙◌}
use Rattle.std.specs.Prelude.{nat_eq, unwrap_or}
use Rattle.std.specs.Option.{option_and_then, option_map_or, option_or}
use Rattle.image_model.specs.Image.{ClassOf}
use Rattle.image_model.specs.Chain.{class_named}
use Rattle.image_model.specs.Means.{MeaningOf, a_class, transcript, undeclared}
use Rattle.class_table.specs.declared.record.ClassRec.{ClassRec}
use Rattle.class_table.specs.Slots.{Slots}
use Rattle.class_table.specs.View.{class_of, class_at, number_image}
use Rattle.class_table.specs.Finding.{is_named, named_in}
use Rattle.class_table.proofs.Live.{eqb-equal, find-passes}
use Rattle.class_table.proofs.Found.{class_named-named_in}

module _ (s : Slots) (n : ℕ) where
  -- a class that is found has the name
  class_found : option_map (λ (c : ClassOf ℕ). a_class c.name) (class_named nat_eq (number_image s).classes n) ≡ option_map (λ (k : ℕ). a_class n) (named_in s.classes s.class_order n)
  class_found = ap (option_map (λ (c : ClassOf ℕ). a_class c.name)) (class_named-named_in s n) ∙ by (named_in s.classes s.class_order n) refl
    where
      of : (r : Option ClassRec) → option_map_or (nat_eq n) (option_map (λ (c : ClassRec). c.name) r) false ≡ true → option_map (λ (c : ClassOf ℕ). a_class c.name) (option_map (class_of s.classes) r) ≡ Some (a_class n)
      of None q = absurd (true≢false (sym q))
      of (Some c) q = ap (λ (m : ℕ). Some (a_class m)) (sym (eqb-equal n c.name q))

      by : (o : Option ℕ) → named_in s.classes s.class_order n ≡ o → option_map (λ (c : ClassOf ℕ). a_class c.name) (option_and_then (class_at s) o) ≡ option_map (λ (k : ℕ). a_class n) o
      by None e = refl
      by (Some k) e = of (slice_get s.classes k) (find-passes (is_named s.classes n) s.class_order k e).0

  -- the meaning of the name, where a slot is found for it or not
  abbrev pub global : Option (ClassOf ℕ) → Bool → MeaningOf ℕ
  global o b = unwrap_or (option_or (option_map (λ (c : ClassOf ℕ). a_class c.name) o) (cond b (Some transcript) None)) undeclared

  global-found : (o : Option ℕ) (b : Bool) → o ≡ named_in s.classes s.class_order n
      → unwrap_or (option_or (option_map (λ (k : ℕ). a_class n) o) (cond b (Some transcript) None)) undeclared ≡ global (class_named nat_eq (number_image s).classes n) b
  global-found o b e = ap (λ z. unwrap_or (option_or z (cond b (Some transcript) None)) undeclared) (ap (option_map (λ (k : ℕ). a_class n)) e ∙ sym class_found)

  pub global-class : (o : Option ℕ) (b : Bool) → o ≡ named_in s.classes s.class_order n → is_some o ≡ true → a_class n ≡ global (class_named nat_eq (number_image s).classes n) b
  global-class None b e h = absurd (true≢false (sym h))
  global-class (Some k) b e h = global-found (Some k) b e

  pub global-other : (o : Option ℕ) (b : Bool) → o ≡ named_in s.classes s.class_order n → is_some o ≡ false → cond b transcript undeclared ≡ global (class_named nat_eq (number_image s).classes n) b
  global-other None b e h = by b ∙ global-found None b e
    where
      by : (b : Bool) → ◌≡◌ {A = MeaningOf ℕ} (cond b transcript undeclared) (unwrap_or (cond b (Some transcript) None) undeclared)
      by true = refl
      by false = refl
  global-other (Some k) b e h = absurd (true≢false h)
