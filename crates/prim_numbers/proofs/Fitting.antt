-- Integers of 64 bits.
use Rattle.std.proofs.Common.{◌≡◌, ℕ, ◌<◌, ◌^◌, Bool, true, false, if◌then◌else◌, nat_lt, ℤ, pos, negsuc, Option, Some, None, refl, sym, ap, ◌∙◌, arith}
use Rattle.std.specs.Int.{w64}
use Rattle.std.specs.Int.RustNames.{FitsSigned}
use Rattle.std.specs.Option.{SomeIff}
use Rattle.run_model.specs.Numbers.{fits, fitting}
use Rattle.std.proofs.lemmas.Bool.{lt-ltb, ltb-true}

fits_true : (z : ℤ) → FitsSigned w64 z → fits z ≡ true
fits_true (pos n) h = lt-ltb n (2 ^ 63) h.sfits
fits_true (negsuc n) h = lt-ltb n (2 ^ 63) h.sfits

fits_from : (z : ℤ) → fits z ≡ true → FitsSigned w64 z
fits_from (pos n) e = record { sfits = ltb-true n (2 ^ 63) e }
fits_from (negsuc n) e = record { sfits = ltb-true n (2 ^ 63) e }

-- an integer of 64 bits fits
pub fitting_fits : (z : ℤ) → FitsSigned w64 z → Some z ≡ fitting z
fitting_fits z h = sym (ap (λ b. if b then Some z else None) (fits_true z h))

-- any other does not
pub fitting_none : (z : ℤ) → (FitsSigned w64 z → ⊥) → None ≡ fitting z
fitting_none z h = by (fits z) refl
  where
    by : (b : Bool) → fits z ≡ b → None ≡ (if b then Some z else None)
    by true e = absurd (h (fits_from z e))
    by false e = refl

-- what is an integer of 64 bits exactly where it fits
pub fitting_some : (r : Option ℤ) (z : ℤ) → SomeIff r (FitsSigned w64 z) z → r ≡ fitting z
fitting_some None z h = fitting_none z h
fitting_some (Some x) z h = ap Some h.1 ∙ fitting_fits z h.0
