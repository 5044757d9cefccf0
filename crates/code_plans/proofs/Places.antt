-- The place behind the last item that passes, and lists with an item put in there.
use Rattle.std.proofs.Common.{◌≡◌, ℕ, zero, suc, ◌+◌, ◌-◌, ◌<◌, ◌≤◌, ◌||◌, Bool, true, false, cond, not, List, [], ◌∷◌, ◌++◌, length, take, map, find, Option, None, Some, slice_get, refl, sym, ap, ◌∙◌, true≢false, arith}
use Rattle.std.specs.Prelude.{◌&&◌, if◌then◌else◌, insert, is_some}
use Rattle.std.specs.List.{list_any}
use Rattle.std.specs.Option.{option_map_or}
use Rattle.std.proofs.lemmas.List.{length-take-le}
use Rattle.std.proofs.lemmas.Option.{slice_get_within}
use Rattle.class_table.specs.Valid.{IsLive}
use Rattle.class_table.specs.View.{live}
use Rattle.class_table.proofs.Live.{IsLive-first, IsLive-rest}
use Rattle.command_model.specs.Extracted.{put_behind_last}
use Rattle.method_plans.proofs.LiveMethods.{live-cons}
use Rattle.method_plans.proofs.Orders.{insert-middle, take-at}
use Rattle.code_plans.specs.Behind.{behind_last}

-- one more item at the front of those behind
abbrev further : Option ℕ → Bool → Option ℕ
further o b = option_map_or (λ (n : ℕ). Some (suc n)) o (if b then Some 1 else None)

-- no item passes
none-passes : (o : Option ℕ) (b : Bool) → further o b ≡ None → (o ≡ None) × (b ≡ false)
none-passes None true h = absurd (cc)
none-passes None false h = (refl, refl)
none-passes (Some n) b h = absurd (cc)

module _ {X : Type 0} (p : X → Bool) where
  -- with one more item at the end
  pub behind_last-more : (xs : List X) (x : X) → behind_last p (xs ++ x ∷ []) ≡ (if p x then Some (length xs + 1) else behind_last p xs)
  behind_last-more [] x = refl
  behind_last-more (y ∷ ys) x = ap (λ (o : Option ℕ). further o (p y)) (behind_last-more ys x) ∙ by (p x)
    where
      longer : suc (length ys + 1) ≡ length (y ∷ ys) + 1
      longer = omega arith

      by : (b : Bool) → further (if b then Some (length ys + 1) else behind_last p ys) (p y) ≡ (if b then Some (length (y ∷ ys) + 1) else behind_last p (y ∷ ys))
      by true = ap Some longer
      by false = refl

  -- with one more item of those that are looked at
  behind_last-step : (order : List X) (i : ℕ) (x : X) → slice_get order i ≡ Some x → behind_last p (take (i + 1) order) ≡ (if p x then Some (i + 1) else behind_last p (take i order))
  behind_last-step order i x at =
      ap (behind_last p) (take-at order i x at)
      ∙ behind_last-more (take i order) x
      ∙ ap (λ (n : ℕ). if p x then Some (n + 1) else behind_last p (take i order)) (length-take-le i order within)
    where
      less : i < length order
      less = slice_get_within order i x at

      within : i ≤ length order
      within = let h : i < length order = less in omega arith

  -- from the last item that is looked at to the one before it
  pub behind_last-down : (order : List X) (n : ℕ) (x : X) → 0 < n → slice_get order (n - 1) ≡ Some x → behind_last p (take n order) ≡ (if p x then Some n else behind_last p (take (n - 1) order))
  behind_last-down order n x some at =
      ap (λ (k : ℕ). behind_last p (take k order)) (sym whole)
      ∙ behind_last-step order (n - 1) x at
      ∙ ap (λ (k : ℕ). if p x then Some k else behind_last p (take (n - 1) order)) whole
    where
      whole : n - 1 + 1 ≡ n
      whole = let h : 0 < n = some in omega arith

  -- it is no further than the end
  pub behind_last-within : (xs : List X) (n : ℕ) → behind_last p xs ≡ Some n → n ≤ length xs
  behind_last-within [] n e = absurd (cc)
  behind_last-within (x ∷ xs) n e = by (behind_last p xs) (λ m h. behind_last-within xs m h) (p x) e
    where
      by : (o : Option ℕ) → ((m : ℕ) → o ≡ Some m → m ≤ length xs) → (b : Bool) → further o b ≡ Some n → n ≤ length (x ∷ xs)
      by None h true is = let same : 1 ≡ n = cc in omega arith
      by None h false is = absurd (cc)
      by (Some m) h b is =
          let same : suc m ≡ n = cc in
          let less : m ≤ length xs = h m refl in
          omega arith

  -- whether an item passes
  any-behind : (xs : List X) → list_any p xs ≡ is_some (behind_last p xs)
  any-behind [] = refl
  any-behind (x ∷ xs) = ap (λ (b : Bool). p x || b) (any-behind xs) ∙ by (p x) (behind_last p xs)
    where
      by : (b : Bool) (o : Option ℕ) → (b || is_some o) ≡ is_some (further o b)
      by true None = refl
      by true (Some n) = refl
      by false None = refl
      by false (Some n) = refl

  -- the list with an item there
  pub put_behind_last-is : (x : X) (xs : List X) (n : ℕ) → behind_last p xs ≡ Some n → put_behind_last p x xs ≡ insert xs n x
  put_behind_last-is x [] n e = absurd (cc)
  put_behind_last-is x (y ∷ ys) n e =
      ap (λ (b : Bool). if p y && not b then y ∷ x ∷ ys else y ∷ put_behind_last p x ys) (any-behind ys) ∙ by (behind_last p ys) (λ m h. put_behind_last-is x ys m h) (p y) e
    where
      by : (o : Option ℕ) → ((m : ℕ) → o ≡ Some m → put_behind_last p x ys ≡ insert ys m x) → (b : Bool) → further o b ≡ Some n
          → (if b && not (is_some o) then y ∷ x ∷ ys else y ∷ put_behind_last p x ys) ≡ insert (y ∷ ys) n x
      by None h true is = let same : 1 ≡ n = cc in ap (λ (zs : List X). y ∷ zs) (sym (insert-middle [] ys x)) ∙ ap (λ (m : ℕ). insert (y ∷ ys) m x) same
      by None h false is = absurd (cc)
      by (Some m) h true is = let same : suc m ≡ n = cc in ap (λ (zs : List X). y ∷ zs) (h m refl) ∙ ap (λ (k : ℕ). insert (y ∷ ys) k x) same
      by (Some m) h false is = let same : suc m ≡ n = cc in ap (λ (zs : List X). y ∷ zs) (h m refl) ∙ ap (λ (k : ℕ). insert (y ∷ ys) k x) same

  -- where one is found by a stronger test, there is such a place
  pub behind_last-found : (f : X → Bool) → ((x : X) → f x ≡ true → p x ≡ true) → (xs : List X) (m : X) → find f xs ≡ Some m → behind_last p xs ≡ None → ⊥
  behind_last-found f stronger [] m e none = absurd (cc)
  behind_last-found f stronger (x ∷ xs) m e none = by (f x) refl e (λ is h. behind_last-found f stronger xs m is h)
    where
      by : (b : Bool) → f x ≡ b → cond b (Some x) (find f xs) ≡ Some m → (find f xs ≡ Some m → behind_last p xs ≡ None → ⊥) → ⊥
      by true h is later = true≢false (sym (stronger x h) ∙ (none-passes (behind_last p xs) (p x) none).1)
      by false h is later = later is (none-passes (behind_last p xs) (p x) none).0

-- where the items are changed and the tests agree
pub behind_last-map : {X Y : Type 0} (g : X → Y) (p : Y → Bool) (q : X → Bool) → ((x : X) → p (g x) ≡ q x) → (xs : List X) → behind_last p (map g xs) ≡ behind_last q xs
behind_last-map g p q agree [] = refl
behind_last-map g p q agree (x ∷ xs) = λ i. further (behind_last-map g p q agree xs i) (agree x i)

module _ {X Y : Type 0} (g : X → Y) (xs : List X) where
  -- among the slots of an order, and among what they hold
  pub behind_last-live : (p : Y → Bool) (q : ℕ → Bool) (order : List ℕ) → ((k : ℕ) → IsLive order k → (x : X) × (slice_get xs k ≡ Some x) × (q k ≡ p (g x))) → behind_last p (map g (live xs order)) ≡ behind_last q order
  behind_last-live p q [] h = refl
  behind_last-live p q (k ∷ ks) h =
      ap (behind_last p) (live-cons g xs k here.0 ks here.1)
      ∙ (λ i. further (behind_last-live p q ks (λ j l. h j (IsLive-rest j k ks l)) i) (sym here.2 i))
    where
      here : (x : X) × (slice_get xs k ≡ Some x) × (q k ≡ p (g x))
      here = h k (IsLive-first k ks)

  -- what the slots hold, with one more slot at a place
  pub live-insert : (k : ℕ) (x : X) → slice_get xs k ≡ Some x → (order : List ℕ) (n : ℕ) → ((j : ℕ) → IsLive order j → (y : X) × (slice_get xs j ≡ Some y)) → n ≤ length order
      → map g (live xs (insert order n k)) ≡ insert (map g (live xs order)) n (g x)
  live-insert k x at order zero h within =
      ap (λ (ks : List ℕ). map g (live xs ks)) (insert-middle [] order k) ∙ live-cons g xs k x order at ∙ sym (insert-middle [] (map g (live xs order)) (g x))
  live-insert k x at [] (suc n) h within = absurd (omega arith)
  live-insert k x at (j ∷ js) (suc n) h within =
      live-cons g xs j here.0 (insert js n k) here.1
      ∙ ap (λ (ys : List Y). g here.0 ∷ ys) (live-insert k x at js n (λ i l. h i (IsLive-rest i j js l)) less)
      ∙ sym (ap (λ (ys : List Y). insert ys (suc n) (g x)) (live-cons g xs j here.0 js here.1))
    where
      here : (y : X) × (slice_get xs j ≡ Some y)
      here = h j (IsLive-first j js)

      less : n ≤ length js
      less = omega arith
