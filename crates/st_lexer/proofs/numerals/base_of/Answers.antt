use Rattle.std.proofs.Common.{◌≡◌, ℕ, ◌+◌, ◌*◌, ◌<◌, ◌≤◌, inl, inr, arith}
use Rattle.std.proofs.lemmas.Bool.{cases_lt}
use Rattle.st_lexer.proofs.Bases.{digits_value-more}
use Rattle.st_lexer.proofs.numerals.base_of.Goals as goal

-- the number read so far, below 37 or not, with one more digit
step_is : (base new value more digit : ℕ) → (base < 37 → base ≡ value) → (base < 37 → new ≡ base * 10 + digit) → (37 ≤ base → new ≡ base) → more ≡ value * 10 + digit → new < 37 → new ≡ more
step_is base new value more digit is small large e lt = elim (cases_lt base 37) [
  | inl below ↦ omega (arith, is below, small below)
  | inr above ↦ absurd (omega (arith, large above))
]

step_above : (base new value more digit : ℕ) → (base < 37 → base ≡ value) → (37 ≤ base → 37 ≤ value) → (base < 37 → new ≡ base * 10 + digit) → more ≡ value * 10 + digit → 37 ≤ new → 37 ≤ more
step_above base new value more digit is high small e le = elim (cases_lt base 37) [
  | inl below ↦ omega (arith, is below, small below)
  | inr above ↦ omega (arith, high above)
]

pub loop-at-preserved : goal.loop-at-preserved
loop-at-preserved c =
    let i = c.loop-at.invariant in
    let more = digits_value-more c.args.text.now c.args.from c.loop-at.at i.low (omega arith) in
    record {
      low = omega (arith, i.low);
      high = omega arith;
      is = step_is c.loop-at.base _ _ _ _ i.is c.base_more-base.ensures.more c.base_more-base.ensures.above more;
      above = step_above c.loop-at.base _ _ _ _ i.is i.above c.base_more-base.ensures.more more;
    }
