-- How far a string has been read: up to m the bytes behind its quote are paired.
use Rattle.std.proofs.Common.{◌≡◌, ◌≢◌, ℕ, ◌+◌, ◌-◌, ◌<◌, ◌≤◌, List, [], ◌∷◌, ◌++◌, length, get_or, take, drop, refl, sym, ◌∙◌, ap, subst, arith, append_assoc, le_refl}
use Rattle.std.specs.Prelude.{slice_range}
use Rattle.std.proofs.lemmas.List.Edits.{between_more}
use Rattle.std.proofs.lemmas.Slice.{between_to_end}
use Rattle.rb_base.specs.Doubling.{IsPaired, Empty, Byte, Pair}
use Rattle.token_model.specs.Tokens.{IsString}
use Rattle.token_model.proofs.RunLemmas.{Has-inside}
use Rattle.token_model.proofs.Quotes.{IsPaired-append, closes_once}

-- nothing is paired
pub IsPaired-none : (t : List ℕ) (i : ℕ) → IsPaired 39 (slice_range t i i)
IsPaired-none t i = let none : i - i ≡ 0 = omega arith in subst (λ n. IsPaired 39 (take n (drop i t))) (sym none) Empty

-- one more byte that is no quote
pub IsPaired-byte : (t : List ℕ) (i m : ℕ) → i ≤ m → m < length t → get_or t m 0 ≢ 39 → IsPaired 39 (slice_range t i m) → IsPaired 39 (slice_range t i (m + 1))
IsPaired-byte t i m le lt other h =
    subst (IsPaired 39) (sym (between_more t i m 0 le lt)) (IsPaired-append 39 (slice_range t i m) _ h (Byte other Empty))

-- two more quotes
pub IsPaired-pair : (t : List ℕ) (i m : ℕ) → i ≤ m → get_or t m 0 ≡ 39 → get_or t (m + 1) 0 ≡ 39 → IsPaired 39 (slice_range t i m) → IsPaired 39 (slice_range t i (m + 2))
IsPaired-pair t i m le first second h =
    let one = between_more t i m 0 le (Has-inside t m 39 (omega arith) first) in
    let two = between_more t i (m + 1) 0 (omega arith) (Has-inside t (m + 1) 39 (omega arith) second) in
    let sum : m + 1 + 1 ≡ m + 2 = omega arith in
    let both : slice_range t i (m + 2) ≡ slice_range t i m ++ 39 ∷ 39 ∷ [] =
    ap (λ n. slice_range t i n) (sym sum) ∙ two ∙ ap (λ s. s ++ get_or t (m + 1) 0 ∷ []) one ∙ append_assoc (slice_range t i m) (get_or t m 0 ∷ []) (get_or t (m + 1) 0 ∷ []) ∙ (rw (first, second) refl)
    in
    subst (IsPaired 39) (sym both) (IsPaired-append 39 (slice_range t i m) _ h (Pair Empty))

-- where the bytes are paired up to the end of the text, the string does not close
pub IsString-open : (t : List ℕ) (i m : ℕ) → length t ≤ m → IsPaired 39 (slice_range t (i + 1) m) → (j : ℕ) → ¬ IsString t i j
IsString-open t i m end h j g =
    let inside = Has-inside t g.close 39 (omega arith) g.closes in
    let whole : IsPaired 39 (slice_range t (i + 1) (length t)) =
    subst (IsPaired 39) (between_to_end t (i + 1) m end ∙ sym (between_to_end t (i + 1) (length t) (le_refl (length t)))) h
    in
    g.alone (closes_once 39 t (i + 1) g.close (length t) (omega (arith, g.order)) inside (le_refl (length t)) g.inside whole g.closes)
