-- Integers of 64 bits among those of 128 bits.
use Rattle.std.proofs.Common.{◌≡◌, ℕ, zero, suc, ◌+◌, ◌*◌, ◌^◌, ◌<◌, ◌≤◌, ℤ, pos, negsuc, to_z, of_z, refl, sym, ap, ◌∙◌, subst, arith}
use Rattle.std.specs.Prelude.{unsigned_abs, ◌*ℤ◌, ◌-ℤ◌}
use Rattle.std.proofs.lemmas.Nat.{mul-le}
use Rattle.std.specs.Int.{w64, w128}
use Rattle.std.specs.Int.RustNames.{FitsSigned}
use Rattle.std.specs.Int.Signed.{nat_abs-le}
use Rattle.std.proofs.lemmas.Int.{ints, to_z-of_z, unsigned_abs-mul, fits_signed_mul, fits_signed_from_abs}
use Rattle.prim_numbers.proofs.Shifts.{pow_from}

fits_wide : (x : ℤ) → FitsSigned w64 x → FitsSigned w128 x
fits_wide x f = record { sfits = omega (arith, f.sfits) }

fits_size : (z : ℤ) → unsigned_abs z ≤ 2 ^ 63 → FitsSigned w128 z
fits_size z h = fits_signed_from_abs w128 z (omega (arith, h))

-- an integer of 64 bits as one of 128 bits
pub widened : (x : ℤ) → FitsSigned w64 x → to_z w128 (of_z w128 (to_z w64 (of_z w64 x))) ≡ x
widened x f = ap (λ z. to_z w128 (of_z w128 z)) (to_z-of_z w64 x f) ∙ to_z-of_z w128 x (fits_wide x f)

-- an integer of at most 2^63 in size
pub passed : (z : ℤ) → unsigned_abs z ≤ 2 ^ 63 → to_z w128 (of_z w128 z) ≡ z
passed z h = to_z-of_z w128 z (fits_size z h)

-- a power of two of at most 2^63
pub passed_power : (r : ℤ) (n : ℕ) → n < 64 → r ≡ pos (2 ^ n) → to_z w128 (of_z w128 r) ≡ pos (2 ^ n)
passed_power r n l e =
    let h : 2 ^ n ≤ 2 ^ 63 = pow_from n 63 (omega (arith, l)) in
    ap (λ z. to_z w128 (of_z w128 z)) e ∙ passed (pos (2 ^ n)) h

pub product_fits : (a b : ℤ) → unsigned_abs a ≤ 2 ^ 63 → unsigned_abs b ≤ 2 ^ 63 → FitsSigned w128 (a *ℤ b)
product_fits a b h k = fits_signed_mul w128 a b (2 ^ 63) (2 ^ 63) h k (omega arith)

pub passed_product : (a b : ℤ) → unsigned_abs a ≤ 2 ^ 63 → unsigned_abs b ≤ 2 ^ 63 → to_z w128 (of_z w128 (a *ℤ b)) ≡ a *ℤ b
passed_product a b h k = to_z-of_z w128 (a *ℤ b) (product_fits a b h k)

-- an integer of 64 bits less a product of two of at most 2^63 in size
pub rest_fits : (x a b : ℤ) → FitsSigned w64 x → unsigned_abs a ≤ 2 ^ 63 → unsigned_abs b ≤ 2 ^ 63 → FitsSigned w128 (x -ℤ (a *ℤ b))
rest_fits x a b f h k = by (a *ℤ b) size
  where
    size : unsigned_abs (a *ℤ b) ≤ 2 ^ 63 * 2 ^ 63
    size = rw (unsigned_abs-mul a b) (mul-le (unsigned_abs a) (unsigned_abs b) (2 ^ 63) (2 ^ 63) h k)

    of_x : unsigned_abs x ≤ 2 ^ 63
    of_x = nat_abs-le x f.sfits

    by : (w : ℤ) → unsigned_abs w ≤ 2 ^ 63 * 2 ^ 63 → FitsSigned w128 (x -ℤ w)
    by w l = fits_signed_from_abs w128 (x -ℤ w) (omega (arith, ints, l, of_x))

pub passed_rest : (x a b : ℤ) → FitsSigned w64 x → unsigned_abs a ≤ 2 ^ 63 → unsigned_abs b ≤ 2 ^ 63 → to_z w128 (of_z w128 (x -ℤ (a *ℤ b))) ≡ x -ℤ (a *ℤ b)
passed_rest x a b f h k = to_z-of_z w128 (x -ℤ (a *ℤ b)) (rest_fits x a b f h k)

-- the size of an integer of 64 bits
pub size_within : (x : ℤ) → FitsSigned w64 x → unsigned_abs x ≤ 2 ^ 63
size_within x f = nat_abs-le x f.sfits
