-- Shifts that are far, and quotients by powers of two.
use Rattle.std.proofs.Common.{◌≡◌, ℕ, zero, suc, ◌+◌, ◌-◌, ◌*◌, ◌/◌, ◌^◌, ◌<◌, ◌≤◌, Bool, true, false, ℤ, pos, negsuc, Option, Some, None, refl, sym, ap, ◌∙◌, subst, arith}
use Rattle.std.specs.Prelude.{unsigned_abs, ◌*ℤ◌, ◌<ℤ◌, ◌≤ℤ◌}
use Rattle.std.specs.Int.{w64, int_div_euclid}
use Rattle.std.specs.Int.RustNames.{FitsSigned}
use Rattle.std.proofs.lemmas.Int.{ints, unsigned_abs-mul}
use Rattle.std.specs.Int.Signed.{nat_abs-le}
use Rattle.std.proofs.lemmas.Nat.{pow-add, div_below}
use Rattle.run_model.specs.Numbers.{fitting, floor_quotient}
use Rattle.prim_numbers.proofs.Fitting.{fitting_none}

one_le_pow : (k : ℕ) → 1 ≤ 2 ^ k
one_le_pow zero = omega arith
one_le_pow (suc k) = let h : 1 ≤ 2 ^ k = one_le_pow k in omega (arith, h)

-- a greater power of two
pow_le : (j k : ℕ) → 2 ^ j ≤ 2 ^ (j + k)
pow_le j k =
    let e : 2 ^ (j + k) ≡ 2 ^ j * 2 ^ k = pow-add 2 j k in
    let h : 1 ≤ 2 ^ k = one_le_pow k in
    rw e (times (2 ^ j) (2 ^ k) h)
  where
    times : (a b : ℕ) → 1 ≤ b → a ≤ a * b
    times a zero l = absurd (omega (arith, l))
    times a (suc b) l = omega arith

pub pow_from : (k n : ℕ) → k ≤ n → 2 ^ k ≤ 2 ^ n
pow_from k n l = let e : k + (n - k) ≡ n = omega (arith, l) in subst (λ m. 2 ^ k ≤ 2 ^ m) e (pow_le k (n - k))

pub pow_below : (n k : ℕ) → n < k → 2 ^ n < 2 ^ k
pow_below n k l =
    let h : 2 ^ suc n ≤ 2 ^ k = pow_from (suc n) k l in
    let g : 1 ≤ 2 ^ n = one_le_pow n in
    omega (arith, h, g)

-- an integer that is not 0 is none of 64 bits when it is shifted so far
pub shifted_far : (x : ℤ) (n : ℕ) → (x ≡ pos 0 → ⊥) → 64 ≤ n → None ≡ fitting (x *ℤ pos (2 ^ n))
shifted_far x n h l = fitting_none (x *ℤ pos (2 ^ n)) too_large
  where
    size : (z : ℤ) → (z ≡ pos 0 → ⊥) → 1 ≤ unsigned_abs z
    size (pos zero) k = absurd (k refl)
    size (pos (suc a)) k = omega arith
    size (negsuc a) k = omega arith

    times : (a b : ℕ) → 1 ≤ a → b ≤ a * b
    times zero b k = absurd (omega (arith, k))
    times (suc a) b k = omega arith

    too_large : FitsSigned w64 (x *ℤ pos (2 ^ n)) → ⊥
    too_large f =
        let a : unsigned_abs (x *ℤ pos (2 ^ n)) ≡ unsigned_abs x * 2 ^ n = unsigned_abs-mul x (pos (2 ^ n)) in
        let b : unsigned_abs (x *ℤ pos (2 ^ n)) ≤ 2 ^ 63 = nat_abs-le (x *ℤ pos (2 ^ n)) f.sfits in
        let c : 2 ^ 64 ≤ 2 ^ n = pow_from 64 n l in
        let e : 2 ^ n ≤ unsigned_abs x * 2 ^ n = times (unsigned_abs x) (2 ^ n) (size x h) in
        omega (arith, a, b, c, e)

-- nothing is left of a size that is below the divisor
none_left : (a n : ℕ) → a < 2 ^ 63 → 63 ≤ n → a / 2 ^ n ≡ 0
none_left a n h l =
    let g : 2 ^ 63 ≤ 2 ^ n = pow_from 63 n l in
    let p : 0 < 2 ^ n = one_le_pow n in
    let q : a < 1 * 2 ^ n = omega (arith, h, g) in
    let r : a / 2 ^ n < 1 = div_below a (2 ^ n) 1 p q in
    omega (arith, r)

pub far_negative : (x : ℤ) (n : ℕ) → FitsSigned w64 x → x <ℤ pos 0 → 63 ≤ n → negsuc 0 ≡ floor_quotient x (pos (2 ^ n))
far_negative (pos a) n f h l = absurd (omega (arith, ints, h))
far_negative (negsuc a) n f h l = sym (ap negsuc (none_left a n f.sfits l))

pub far_positive : (x : ℤ) (n : ℕ) → FitsSigned w64 x → pos 0 ≤ℤ x → 63 ≤ n → pos 0 ≡ floor_quotient x (pos (2 ^ n))
far_positive (pos a) n f h l = sym (ap pos (none_left a n f.sfits l))
far_positive (negsuc a) n f h l = absurd (omega (arith, ints, h))

pub divided : (x : ℤ) (d : ℕ) → int_div_euclid x (pos d) ≡ floor_quotient x (pos d)
divided (pos a) d = refl
divided (negsuc a) d = refl

pub ruleset quotients = (far_negative, far_positive, divided, pow_below)
