-- Runs of bytes: where they end, and that they end at one place alone.
use Rattle.std.proofs.Common.{◌≡◌, ℕ, ◌<◌, ◌≤◌, inl, inr, Bool, false, List, length, sym, ◌∙◌, ap, arith}
use Rattle.std.proofs.lemmas.List.{get_or_past}
use Rattle.std.proofs.lemmas.Bool.{false≢true, cases_lt}
use Rattle.token_model.specs.Bytes.{Has, Passes, IsRun}

-- a byte of a class that 0 is not in stands inside the text
pub Passes-inside : (p : ℕ → Bool) (t : List ℕ) (i : ℕ) → p 0 ≡ false → Passes p t i → i < length t
Passes-inside p t i none h = elim (cases_lt i (length t)) [
  | inl lt ↦ lt
  | inr le ↦ absurd (false≢true (sym none ∙ ap p (sym (get_or_past t i 0 le)) ∙ h))
]

-- a byte other than 0 stands inside the text
pub Has-inside : (t : List ℕ) (i b : ℕ) → 0 < b → Has t i b → i < length t
Has-inside t i b positive h = elim (cases_lt i (length t)) [
  | inl lt ↦ lt
  | inr le ↦ absurd (omega (arith, get_or_past t i 0 le))
]

-- a run is no longer than another from the same place
run_le : (p : ℕ → Bool) (t : List ℕ) (i j k : ℕ) → IsRun p t i j → IsRun p t i k → j ≤ k
run_le p t i j k r s = elim (cases_lt k j) [
  | inl lt ↦ absurd (false≢true (sym s.stops ∙ r.all k s.order lt))
  | inr le ↦ le
]

-- a run ends at one place
pub IsRun-same : (p : ℕ → Bool) (t : List ℕ) (i j k : ℕ) → IsRun p t i j → IsRun p t i k → j ≡ k
IsRun-same p t i j k r s = omega (arith, run_le p t i j k r s, run_le p t i k j s r)

-- a run ends inside the text or at its end
pub IsRun-inside : (p : ℕ → Bool) (t : List ℕ) (i j : ℕ) → p 0 ≡ false → i ≤ length t → IsRun p t i j → j ≤ length t
IsRun-inside p t i j none le r = elim (cases_lt (length t) j) [
  | inl lt ↦ absurd (omega (arith, Passes-inside p t (length t) none (r.all (length t) le lt)))
  | inr le ↦ le
]
