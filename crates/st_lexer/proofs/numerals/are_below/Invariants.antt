use Rattle.std.proofs.Common.{◌-◌, ℕ, ◌<◌, get_or}
use Rattle.std.specs.Char.{digit_value}
use Rattle.st_lexer.proofs.numerals.are_below.Given as goal

abbrev pub invariant-loop-at : goal.invariant-loop-at
invariant-loop-at l = record {
  low : l.radix < l.at;
  below : (k : ℕ) → l.radix < k → k < l.at → digit_value (get_or l.text k 0) < l.base;
}

abbrev pub decreases-loop-at : goal.decreases-loop-at
decreases-loop-at l = l.to - l.at
