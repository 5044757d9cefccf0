-- A slot that is put into an order before the first one that passes a test.
use Rattle.std.proofs.Common.{◌≡◌, ℕ, suc, ◌+◌, ◌≤◌, Bool, true, false, cond, nat_lt, List, [], ◌∷◌, length, map, position, unwrap_or, Option, Some, None, slice_get, refl, sym, ap, ◌∙◌, arith}
use Rattle.std.specs.Prelude.{if◌then◌else◌, insert}
use Rattle.std.specs.List.{position_or_len, cons_option}
use Rattle.std.proofs.lemmas.Bool.{ltb-false}
use Rattle.std.proofs.lemmas.List.Sums.{prefix_len-le-length}
use Rattle.std.specs.Prelude.{not}
use Rattle.class_table.specs.View.{live}
use Rattle.class_table.specs.Valid.{IsLive}
use Rattle.class_table.proofs.Live.{IsLive-first, IsLive-rest}
use Rattle.command_model.specs.ClassEffects.{put_before}

module _ (p : ℕ → Bool) where
  first-within : (xs : List ℕ) → position_or_len p xs ≤ length xs
  first-within xs = prefix_len-le-length (λ x. not (p x)) xs

  -- the place of the first one, or the place behind all
  first-place : (xs : List ℕ) → unwrap_or (position p xs) (length xs) ≡ position_or_len p xs
  first-place xs = by (nat_lt (position_or_len p xs) (length xs)) refl
    where
      by : (b : Bool) → nat_lt (position_or_len p xs) (length xs) ≡ b → unwrap_or (cond b (Some (position_or_len p xs)) None) (length xs) ≡ position_or_len p xs
      by true e = refl
      by false e = let end : length xs ≤ position_or_len p xs = ltb-false _ _ e in omega (arith, first-within xs)

  pub place-within : (xs : List ℕ) → unwrap_or (position p xs) (length xs) ≤ length xs
  place-within xs = omega (arith, first-place xs, first-within xs)

  insert-first : (k : ℕ) (xs : List ℕ) → insert xs (position_or_len p xs) k ≡ put_before p k xs
  insert-first k [] = refl
  insert-first k (x ∷ xs) = by (p x) (insert-first k xs)
    where
      by : (b : Bool) → insert xs (position_or_len p xs) k ≡ put_before p k xs → insert (x ∷ xs) (cond (not b) (1 + position_or_len p xs) 0) k ≡ (if b then k ∷ x ∷ xs else x ∷ put_before p k xs)
      by true rest = refl
      by false rest =
          let up : 1 + position_or_len p xs ≡ suc (position_or_len p xs) = omega arith in
          ap (λ (n : ℕ). insert (x ∷ xs) n k) up ∙ ap (λ (ys : List ℕ). x ∷ ys) rest

  -- a number that is put in at that place
  pub insert-before : (k : ℕ) (xs : List ℕ) → insert xs (unwrap_or (position p xs) (length xs)) k ≡ put_before p k xs
  insert-before k xs = ap (λ (n : ℕ). insert xs n k) (first-place xs) ∙ insert-first k xs

-- what live slots hold, one of which stands before the first one that passes a test
pub live-before : {X Y : Type 0} (g : X → Y) (q : Y → Bool) (p : ℕ → Bool) (xs : List X) (n : ℕ) (x : X) → slice_get xs n ≡ Some x → (order : List ℕ)
    → ((k : ℕ) → IsLive order k → (y : X) × (slice_get xs k ≡ Some y) × (p k ≡ q (g y))) → map g (live xs (put_before p n order)) ≡ put_before q (g x) (map g (live xs order))
live-before g q p xs n x e [] each = ap (λ (o : Option _). map g (cons_option o [])) e
live-before g q p xs n x e (k ∷ ks) each =
    let at = each k (IsLive-first k ks) in
    by (p k) at.0 at.1 (live-before g q p xs n x e ks (λ j l. each j (IsLive-rest j k ks l))) ∙ ap (λ (b : Bool). if b then g x ∷ g at.0 ∷ map g (live xs ks) else g at.0 ∷ put_before q (g x) (map g (live xs ks))) at.2
    ∙ sym (ap (λ (o : Option _). put_before q (g x) (map g (cons_option o (live xs ks)))) at.1)
  where
    by : (b : Bool) (y : _) → slice_get xs k ≡ Some y → map g (live xs (put_before p n ks)) ≡ put_before q (g x) (map g (live xs ks))
        → map g (live xs (if b then n ∷ k ∷ ks else k ∷ put_before p n ks)) ≡ (if b then g x ∷ g y ∷ map g (live xs ks) else g y ∷ put_before q (g x) (map g (live xs ks)))
    by true y f rest = λ i. map g (cons_option (e i) (cons_option (f i) (live xs ks)))
    by false y f rest = ap (λ (o : Option _). map g (cons_option o (live xs (put_before p n ks)))) f ∙ ap (λ (zs : List _). g y ∷ zs) rest
