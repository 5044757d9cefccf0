-- Places of marks.
use Rattle.std.proofs.Common.{◌≡◌, ℕ, ◌+◌, ◌<◌, ◌≤◌, ◌⊎◌, inl, inr, arith, Bool, true, false, List, [], ◌∷◌, ◌++◌, length, map, Some, None, position, cond, not, refl, sym, ap, ◌∙◌}
use Rattle.std.specs.Prelude.{nat_lt, ◌||◌, is_some, if◌then◌else◌}
use Rattle.std.specs.List.{list_any, position_or_len}
use Rattle.std.proofs.lemmas.Bool.{cases_lt, lt-ltb, le-ltb}
use Rattle.std.proofs.lemmas.Option.{cond_some}
use Rattle.rb_base.specs.Names.{text_eq, number_in, interned}
use Rattle.certified_model.specs.Marks.{Text}
use Rattle.derivations.specs.Signs.{Sign, sign_of, same_sign}
use Rattle.derivations.specs.Numbered.{number_of}
use Rattle.derivations.specs.Named.{has_sign}
use Rattle.derivations.specs.declared.marks.Mark as program

place_mapped : (ms : List program.Mark) (s : Sign) → position_or_len (λ x. same_sign x s) (map sign_of ms) ≡ position_or_len (λ (x : program.Mark). same_sign (sign_of x) s) ms
place_mapped [] s = refl
place_mapped (m ∷ ms) s = ap (λ (n : ℕ). cond (not (same_sign (sign_of m) s)) (1 + n) 0) (place_mapped ms s)

-- the number of a mark that has a place
pub number_is : (first : ℕ) (ms : List program.Mark) (s : Sign) (at number : ℕ) → Some at ≡ position (λ (x : program.Mark). same_sign (sign_of x) s) ms → number ≡ first + at
    → number ≡ number_of (record { first = first; signs = map sign_of ms }) s
number_is first ms s at number e f =
    f ∙ ap (λ (n : ℕ). first + n) (sym (cond_some (nat_lt (position_or_len (λ (x : program.Mark). same_sign (sign_of x) s) ms) (length ms)) (position_or_len (λ (x : program.Mark). same_sign (sign_of x) s) ms) at (sym e)).1 ∙ sym (place_mapped ms s))

-- whether a mark is there
pub there_mapped : (ms : List program.Mark) (s : Sign) → has_sign (map sign_of ms) s ≡ list_any (λ (x : program.Mark). same_sign (sign_of x) s) ms
there_mapped [] s = refl
there_mapped (m ∷ ms) s = ap (λ (b : Bool). same_sign (sign_of m) s || b) (there_mapped ms s)

-- one further
further : (m n k : ℕ) → k ≡ n + 1 → nat_lt (1 + m) k ≡ nat_lt m n
further m n k e = by (cases_lt m n)
  where
    by : (m < n) ⊎ (n ≤ m) → nat_lt (1 + m) k ≡ nat_lt m n
    by (inl l) = lt-ltb (1 + m) k (omega (arith, l, e)) ∙ sym (lt-ltb m n l)
    by (inr g) = le-ltb (1 + m) k (omega (arith, g, e)) ∙ sym (le-ltb m n g)

-- a place before the end is one that is there
module _ {X : Type 0} (p : X → Bool) where
  pub place_there : (xs : List X) → nat_lt (position_or_len p xs) (length xs) ≡ list_any p xs
  place_there [] = refl
  place_there (x ∷ xs) = by (p x) refl (place_there xs)
    where
      by : (b : Bool) → p x ≡ b → nat_lt (position_or_len p xs) (length xs) ≡ list_any p xs → nat_lt (position_or_len p (x ∷ xs)) (length (x ∷ xs)) ≡ list_any p (x ∷ xs)
      by true e h =
          ap (λ (c : Bool). nat_lt (cond (not c) (1 + position_or_len p xs) 0) (length (x ∷ xs))) e
          ∙ lt-ltb 0 (length (x ∷ xs)) (omega arith) ∙ sym (ap (λ (c : Bool). c || list_any p xs) e)
      by false e h =
          ap (λ (c : Bool). nat_lt (cond (not c) (1 + position_or_len p xs) 0) (length (x ∷ xs))) e
          ∙ further (position_or_len p xs) (length xs) (length (x ∷ xs)) (omega arith) ∙ h ∙ sym (ap (λ (c : Bool). c || list_any p xs) e)

  pub is_there : (xs : List X) → is_some (position p xs) ≡ list_any p xs
  is_there xs = by (nat_lt (position_or_len p xs) (length xs)) ∙ place_there xs
    where
      by : (b : Bool) → is_some (cond b (Some (position_or_len p xs)) None) ≡ b
      by true = refl
      by false = refl

  pub nowhere : (xs : List X) → position p xs ≡ None → list_any p xs ≡ false
  nowhere xs e = sym (is_there xs) ∙ ap is_some e

pub is_among : (ms : List program.Mark) (s : Sign) → is_some (position (λ (x : program.Mark). same_sign (sign_of x) s) ms) ≡ has_sign (map sign_of ms) s
is_among ms s = is_there (λ (x : program.Mark). same_sign (sign_of x) s) ms ∙ sym (there_mapped ms s)

-- a text that has no number comes to the end
pub is_new : (names : List Text) (t : Text) → number_in names t ≡ None → interned names t ≡ names ++ t ∷ []
is_new names t e = ap (λ (b : Bool). if b then names else names ++ t ∷ []) (nowhere (text_eq t) names e)
