-- The lines of live slots are those of the classes and the methods of users.
use Rattle.std.proofs.Common.{◌≡◌, ℕ, ◌&&◌, Bool, true, false, cond, not, List, [], ◌∷◌, ◌++◌, map, filter, Option, None, Some, Result, Ok, Err, slice_get, refl, sym, ap, ◌∙◌}
use Rattle.std.specs.Prelude.{flat_map, if◌then◌else◌, OnOk}
use Rattle.std.specs.List.{cons_option}
use Rattle.std.specs.Option.{option_map_or}
use Rattle.rb_base.specs.Names.{text_eq, name_at}
use Rattle.image_model.specs.Image.{ClassOf, EntryOf, ImageOf, map_class, map_entry}
use Rattle.strip_model.specs.Reach.{ReachOf, has_class, has_method}
use Rattle.strip_model.specs.Stripped.{class_line, reached_line, certificate, strip}
use Rattle.class_table.specs.Slots.{Slots}
use Rattle.class_table.specs.Valid.{IsLive}
use Rattle.class_table.specs.View.{live, live_at, class_of, entry_of, image_of}
use Rattle.class_table.proofs.Live.{IsLive-first, IsLive-rest}
use Rattle.strip_texts.specs.Lines.{class_line_at, method_line_at}

-- items that pass two tests, one after the other
filter-both : {X : Type 0} (p q : X → Bool) (xs : List X) → filter p (filter q xs) ≡ filter (λ x. p x && q x) xs
filter-both p q [] = refl
filter-both {X} p q (x ∷ xs) = by (p x) refl (q x) (filter-both p q xs)
  where
    by : (a : Bool) → p x ≡ a → (b : Bool) → filter p (filter q xs) ≡ filter (λ y. p y && q y) xs
        → filter p (cond b (x ∷ filter q xs) (filter q xs)) ≡ cond (p x && b) (x ∷ filter (λ y. p y && q y) xs) (filter (λ y. p y && q y) xs)
    by true e true rest = ap (λ c. cond c (x ∷ filter p (filter q xs)) (filter p (filter q xs))) e ∙ ap (λ ys. x ∷ ys) rest ∙ sym (ap (λ c. cond (c && true) (x ∷ filter (λ y. p y && q y) xs) (filter (λ y. p y && q y) xs)) e)
    by true e false rest = rest ∙ sym (ap (λ c. cond (c && false) (x ∷ filter (λ y. p y && q y) xs) (filter (λ y. p y && q y) xs)) e)
    by false e true rest = ap (λ c. cond c (x ∷ filter p (filter q xs)) (filter p (filter q xs))) e ∙ rest ∙ sym (ap (λ c. cond (c && true) (x ∷ filter (λ y. p y && q y) xs) (filter (λ y. p y && q y) xs)) e)
    by false e false rest = rest ∙ sym (ap (λ c. cond (c && false) (x ∷ filter (λ y. p y && q y) xs) (filter (λ y. p y && q y) xs)) e)

-- the lines of what is of a user in live slots
module _ {X Y Z : Type 0} (kernel : Z → Bool) (line : Z → List ℕ) (h : Y → Z) (g : X → Y) (xs : List X) (order : List ℕ) where
  abbrev slot : ℕ → List ℕ
  slot k = option_map_or (λ x. if kernel (h (g x)) then [] else line (h (g x))) (live_at xs order k) []

  abbrev users : List Z → List Z
  users zs = filter (λ z. not (kernel z)) zs

  lined : (ks : List ℕ) → ((k : ℕ) → IsLive ks k → IsLive order k) → flat_map slot ks ≡ flat_map line (users (map h (map g (live xs ks))))
  lined [] there = refl
  lined (k ∷ ks) there =
      ap (λ (b : Bool). option_map_or (λ x. if kernel (h (g x)) then [] else line (h (g x))) (if b then slice_get xs k else None) [] ++ flat_map slot ks) (there k (IsLive-first k ks))
      ∙ by (slice_get xs k) (lined ks (λ j l. there j (IsLive-rest j k ks l)))
    where
      by : (o : Option X) → flat_map slot ks ≡ flat_map line (users (map h (map g (live xs ks))))
          → option_map_or (λ x. if kernel (h (g x)) then [] else line (h (g x))) o [] ++ flat_map slot ks ≡ flat_map line (users (map h (map g (cons_option o (live xs ks)))))
      by None rest = rest
      by (Some x) rest = at (kernel (h (g x)))
        where
          at : (b : Bool) → (if b then [] else line (h (g x))) ++ flat_map slot ks ≡ flat_map line (cond (not b) (h (g x) ∷ users (map h (map g (live xs ks)))) (users (map h (map g (live xs ks)))))
          at true = rest
          at false = ap (λ t. line (h (g x)) ++ t) rest

module _ (s : Slots) (r : ReachOf (List ℕ)) (i : ImageOf (List ℕ)) (left : image_of s ≡ strip text_eq r i) where
  class-lines : flat_map (class_line_at s) s.class_order ≡ flat_map class_line (filter (λ (c : ClassOf (List ℕ)). not c.kernel && has_class text_eq r c.name) i.classes)
  class-lines =
      lined (λ (c : ClassOf (List ℕ)). c.kernel) class_line (map_class (name_at s.names)) (class_of s.classes) s.classes s.class_order s.class_order (λ k l. l)
      ∙ ap (λ (k : ImageOf (List ℕ)). flat_map class_line (filter (λ (c : ClassOf (List ℕ)). not c.kernel) k.classes)) left
      ∙ ap (flat_map class_line) (filter-both (λ (c : ClassOf (List ℕ)). not c.kernel) (λ (c : ClassOf (List ℕ)). has_class text_eq r c.name) i.classes)

  method-lines : flat_map (method_line_at s) s.method_order ≡ flat_map reached_line (filter (λ (m : EntryOf (List ℕ)). not m.kernel && has_method text_eq r m) i.methods)
  method-lines =
      lined (λ (m : EntryOf (List ℕ)). m.kernel) reached_line (map_entry (name_at s.names)) (entry_of s.classes) s.methods s.method_order s.method_order (λ k l. l)
      ∙ ap (λ (k : ImageOf (List ℕ)). flat_map reached_line (filter (λ (m : EntryOf (List ℕ)). not m.kernel) k.methods)) left
      ∙ ap (flat_map reached_line) (filter-both (λ (m : EntryOf (List ℕ)). not m.kernel) (has_method text_eq r) i.methods)

  -- the lines of what is left tell what is reached
  pub lines-left : flat_map (class_line_at s) s.class_order ++ flat_map (method_line_at s) s.method_order ≡ certificate r i
  lines-left = λ j. class-lines j ++ method-lines j

-- a text and both lists of lines, where there is room for them
pub lines-told : (s : Slots) (out classes lines new : List ℕ) {E : Type 0} {T : Type 0} (result : Result T E) → classes ≡ flat_map (class_line_at s) s.class_order
    → lines ≡ classes ++ flat_map (method_line_at s) s.method_order → OnOk result (new ≡ out ++ lines)
    → OnOk result ((r : ReachOf (List ℕ)) (i : ImageOf (List ℕ)) → image_of s ≡ strip text_eq r i → new ≡ out ++ certificate r i)
lines-told s out classes lines new (Err e) first second third = tt
lines-told s out classes lines new (Ok u) first second third = λ r i left.
    third ∙ ap (λ t. out ++ t) (second ∙ ap (λ t. t ++ flat_map (method_line_at s) s.method_order) first ∙ lines-left s r i left)
