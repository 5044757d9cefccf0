-- The line that stands first.
use Rattle.std.proofs.Common.{◌≡◌, ℕ, ◌<◌, ◌≤◌, Bool, true, false, cond, List, length, get_or, nat_lt, ◌==◌, not, Some, None, true≢false, eq-eqb, refl, sym, ◌∙◌, arith}
use Rattle.std.specs.Prelude.{position, unwrap_or, Result, Ok, Err, MatchResult, IsUtf8}
use Rattle.std.specs.Borrow.{Bor}
use Rattle.std.specs.List.{position_or_len, before_first}
use Rattle.std.proofs.lemmas.Bool.Decides.{nat_tests}
use Rattle.std.proofs.lemmas.List.{length-take, get_or-take}
use Rattle.std.proofs.lemmas.List.Sums.{prefix_len-le-length, fails_before_first}
use Rattle.case_tables.specs.CaseTexts.{IsLine}

place_or : (found : Bool) (place end : ℕ) → (found ≡ false → end ≡ place) → unwrap_or (cond found (Some place) None) end ≡ place
place_or true place end h = refl
place_or false place end h = h refl

-- the first place at which the test passes, or the end
pub place_or_end : (p : ℕ → Bool) (bytes : List ℕ) → unwrap_or (position p bytes) (length bytes) ≡ position_or_len p bytes
place_or_end p bytes =
    let within : position_or_len p bytes ≤ length bytes = prefix_len-le-length (λ x. not (p x)) bytes in
    place_or (nat_lt (position_or_len p bytes) (length bytes)) (position_or_len p bytes) (length bytes) (λ past. grind (arith, nat_tests))

pub line_before : (bytes : List ℕ) → IsLine (before_first (λ byte. byte == 10) bytes)
line_before bytes = λ k d below is.
    let n = position_or_len (λ byte. byte == 10) bytes in
    let short : k < n = omega (arith, below, length-take n bytes) in
    true≢false (sym (eq-eqb (get_or bytes k d) 10 (sym (get_or-take n bytes k d short) ∙ is)) ∙ fails_before_first (λ byte. byte == 10) bytes k d short)

pub not_utf8 : {E : Type 0} (Q : E → Type 0) (bytes : List ℕ) (r : Result (Bor (List ℕ)) E) → MatchResult r (λ s. (s.now ≡ bytes) × IsUtf8 bytes) (λ e. ¬ (IsUtf8 bytes) × Q e)
    → ((s : Bor (List ℕ)) → r ≡ Ok s → ⊥) → ¬ (IsUtf8 bytes)
not_utf8 Q bytes (Ok s) h never = absurd (never s refl)
not_utf8 Q bytes (Err e) h never = h.0
