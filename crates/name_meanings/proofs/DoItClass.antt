-- The class whose name is a text.
use Rattle.std.proofs.Common.{◌≡◌, ℕ, ◌<◌, Bool, false, List, [], ◌∷◌, length, find, Option, Some, None, slice_get, option_map, refl, sym, ap, ◌∙◌}
use Rattle.std.specs.Prelude.{nat_eq}
use Rattle.std.specs.Option.{option_and_then, option_map_or}
use Rattle.rb_base.specs.Names.{text_eq, number_in, name_at}
use Rattle.image_model.specs.Image.{ClassOf}
use Rattle.image_model.specs.ImageNames.{ClassNames}
use Rattle.class_table.specs.declared.record.ClassRec.{ClassRec}
use Rattle.class_table.specs.Slots.{Slots}
use Rattle.class_table.specs.View.{class_name, class_of, class_at, number_image}
use Rattle.class_table.specs.Valid.{IsLive, IsOrderly}
use Rattle.class_table.specs.Finding.{is_named, named_in}
use Rattle.class_table.proofs.Live.{find-agree, find-passes, find-live, live-fact}
use Rattle.name_meanings.proofs.Numbers.{without_number, with_number}

-- nothing is found where nothing passes
find-nothing : (ks : List ℕ) → find (λ (k : ℕ). false) ks ≡ None
find-nothing [] = refl
find-nothing (k ∷ ks) = find-nothing ks

module _ (s : Slots) (orderly : IsOrderly s) (t : List ℕ) where
  -- the slot of the class
  abbrev pub slot_of_text : Option ℕ
  slot_of_text = option_and_then (named_in s.classes s.class_order) (number_in s.names t)

  -- it is live
  pub text-live : (k : ℕ) → slot_of_text ≡ Some k → IsLive s.class_order k
  text-live k = by (number_in s.names t)
    where
      by : (o : Option ℕ) → option_and_then (named_in s.classes s.class_order) o ≡ Some k → IsLive s.class_order k
      by None e = absurd (cc)
      by (Some n) e = (find-passes (is_named s.classes n) s.class_order k e).1

  -- whether a class has the name
  abbrev has_text : ClassOf ℕ → Bool
  has_text c = text_eq t (name_at s.names c.name)

  -- a name in a live class has a text
  known : (k : ℕ) (c : ClassRec) → IsLive s.class_order k → slice_get s.classes k ≡ Some c → c.name < length s.names
  known k c l e = (live-fact (ClassNames (λ n. n < length s.names)) (class_of s.classes) s.classes s.class_order k c orderly.names_known.classes l e).name

  -- the first slot with a class of the name is the one for the number of the text
  by_number : (o : Option ℕ) → number_in s.names t ≡ o → find (λ k. option_map_or (λ c. has_text (class_of s.classes c)) (slice_get s.classes k) false) s.class_order ≡ option_and_then (named_in s.classes s.class_order) o
  by_number None e = find-agree _ (λ k. false) s.class_order (λ k l. agrees k l (slice_get s.classes k) refl) ∙ find-nothing s.class_order
    where
      agrees : (k : ℕ) → IsLive s.class_order k → (r : Option ClassRec) → slice_get s.classes k ≡ r → option_map_or (λ (c : ClassRec). text_eq t (name_at s.names c.name)) r false ≡ false
      agrees k l None q = refl
      agrees k l (Some c) q = without_number s.names t c.name (known k c l q) e
  by_number (Some i) e = find-agree _ (is_named s.classes i) s.class_order (λ k l. agrees k l (slice_get s.classes k) refl)
    where
      agrees : (k : ℕ) → IsLive s.class_order k → (r : Option ClassRec) → slice_get s.classes k ≡ r → option_map_or (λ (c : ClassRec). text_eq t (name_at s.names c.name)) r false ≡ option_map_or (nat_eq i) (option_map (λ (c : ClassRec). c.name) r) false
      agrees k l None q = refl
      agrees k l (Some c) q = with_number s.names t c.name (known k c l q) orderly.names_distinct i e

  -- the name of the class in a slot
  name_in : (o : Option ℕ) → option_and_then (class_name s.classes) o ≡ option_map (λ (c : ClassOf ℕ). c.name) (option_and_then (class_at s) o)
  name_in None = refl
  name_in (Some k) = by (slice_get s.classes k)
    where
      by : (r : Option ClassRec) → option_map (λ (c : ClassRec). c.name) r ≡ option_map (λ (c : ClassOf ℕ). c.name) (option_map (class_of s.classes) r)
      by None = refl
      by (Some c) = refl

  -- the name of the first class that has it
  pub text-named : option_and_then (class_name s.classes) slot_of_text ≡ option_map (λ (c : ClassOf ℕ). c.name) (find (λ (c : ClassOf ℕ). text_eq t (name_at s.names c.name)) (number_image s).classes)
  text-named =
      name_in slot_of_text
      ∙ ap (option_map (λ (c : ClassOf ℕ). c.name))
      (ap (option_and_then (class_at s)) (sym (by_number (number_in s.names t) refl)) ∙ find-live (class_of s.classes) (λ (c : ClassOf ℕ). text_eq t (name_at s.names c.name)) s.classes s.class_order)
