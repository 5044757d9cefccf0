-- Quotients that are rounded down, by the signs and sizes of two integers.
use Rattle.std.proofs.Common.{◌≡◌, ℕ, zero, suc, ◌+◌, ◌-◌, ◌*◌, ◌/◌, ◌%◌, ◌^◌, ◌<◌, ◌≤◌, min, Bool, true, false, ◌==◌, ℤ, pos, negsuc, neg_ℤ, refl, sym, ap, ◌∙◌, arith}
use Rattle.std.specs.Prelude.{unsigned_abs, nat_lt, ◌<ℤ◌, ◌≤ℤ◌}
use Rattle.std.specs.Int.{div_ceil}
use Rattle.std.proofs.lemmas.Bool.{ltb-true, ltb-false, eqb-false}
use Rattle.std.proofs.lemmas.Int.{ints}
use Rattle.std.proofs.lemmas.Nat.{div-add-mod', mod_below, div-mul-add, mod-mul-add, div_below}
use Rattle.run_model.specs.Numbers.{is_zero, floor_quotient}

-- one more is one over the last multiple, whatever is left of it
div_ceil-suc : (a b : ℕ) → 0 < b → div_ceil (suc a) b ≡ suc (a / b)
div_ceil-suc a b l = by (nat_lt (a % b + 1) b) refl
  where
    split : a / b * b + a % b ≡ a
    split = div-add-mod' a b

    by : (t : Bool) → nat_lt (a % b + 1) b ≡ t → div_ceil (suc a) b ≡ suc (a / b)
    by true e =
        let h : a % b + 1 < b = ltb-true _ _ e in
        let s : a / b * b + (a % b + 1) ≡ suc a = omega (arith, split) in
        let d : suc a / b ≡ a / b = ap (λ z. z / b) (sym s) ∙ div-mul-add (a / b) b (a % b + 1) h in
        let m : suc a % b ≡ a % b + 1 = ap (λ z. z % b) (sym s) ∙ mod-mul-add (a / b) b (a % b + 1) h in
        omega (arith, d, m)
    by false e =
        let h : b ≤ a % b + 1 = ltb-false _ _ e in
        let r : a % b < b = mod_below a b l in
        let s : suc (a / b) * b + 0 ≡ suc a = omega (arith, split, h, r) in
        let d : suc a / b ≡ suc (a / b) = ap (λ z. z / b) (sym s) ∙ div-mul-add (suc (a / b)) b 0 l in
        let m : suc a % b ≡ 0 = ap (λ z. z % b) (sym s) ∙ mod-mul-add (suc (a / b)) b 0 l in
        omega (arith, d, m)

-- an integer that is not 0 has a size
pub size_over : (y : ℤ) → is_zero y ≡ false → 0 < unsigned_abs y
size_over (pos b) e = let h : b ≡ 0 → ⊥ = eqb-false b 0 e in omega (arith, h)
size_over (negsuc b) e = omega arith

pub both_negative : (x y : ℤ) → x <ℤ pos 0 → y <ℤ pos 0 → pos (unsigned_abs x / unsigned_abs y) ≡ floor_quotient x y
both_negative (pos a) y h k = absurd (omega (arith, ints, h))
both_negative (negsuc a) (pos b) h k = absurd (omega (arith, ints, k))
both_negative (negsuc a) (negsuc b) h k = refl

pub neither_negative : (x y : ℤ) → pos 0 ≤ℤ x → pos 0 ≤ℤ y → pos (unsigned_abs x / unsigned_abs y) ≡ floor_quotient x y
neither_negative (pos a) (pos b) h k = refl
neither_negative (pos a) (negsuc b) h k = absurd (omega (arith, ints, k))
neither_negative (negsuc a) y h k = absurd (omega (arith, ints, h))

pub dividend_negative : (x y : ℤ) → is_zero y ≡ false → x <ℤ pos 0 → pos 0 ≤ℤ y → neg_ℤ (pos (div_ceil (unsigned_abs x) (unsigned_abs y))) ≡ floor_quotient x y
dividend_negative (pos a) y e h k = absurd (omega (arith, ints, h))
dividend_negative (negsuc a) (pos b) e h k = ap (λ n. neg_ℤ (pos n)) (div_ceil-suc a b (size_over (pos b) e))
dividend_negative (negsuc a) (negsuc b) e h k = absurd (omega (arith, ints, k))

pub divisor_negative : (x y : ℤ) → pos 0 ≤ℤ x → y <ℤ pos 0 → neg_ℤ (pos (div_ceil (unsigned_abs x) (unsigned_abs y))) ≡ floor_quotient x y
divisor_negative (pos a) (pos b) h k = absurd (omega (arith, ints, k))
divisor_negative (pos a) (negsuc b) h k = refl
divisor_negative (negsuc a) y h k = absurd (omega (arith, ints, h))

-- no quotient is greater than what is divided, also where it is rounded up
pub div_le : (a b : ℕ) → 0 < b → a / b ≤ a
div_le a zero l = absurd (omega (arith, l))
div_le a (suc c) l =
    let h : a < (a + 1) * suc c = omega arith in
    let k : a / suc c < a + 1 = div_below a (suc c) (a + 1) l h in
    omega (arith, k)

pub div_ceil_le : (a b : ℕ) → 0 < b → div_ceil a b ≤ a
div_ceil_le zero b l =
    let z : 0 * b + 0 ≡ 0 = omega arith in
    let d : 0 / b ≡ 0 = ap (λ n. n / b) (sym z) ∙ div-mul-add 0 b 0 l in
    let m : 0 % b ≡ 0 = ap (λ n. n % b) (sym z) ∙ mod-mul-add 0 b 0 l in
    omega (arith, d, m)
div_ceil_le (suc a) b l = let d : div_ceil (suc a) b ≡ suc (a / b) = div_ceil-suc a b l in let h : a / b ≤ a = div_le a b l in omega (arith, d, h)

-- the quotient by signs and sizes
pub ruleset quotients = (both_negative, neither_negative, dividend_negative, divisor_negative, size_over)
