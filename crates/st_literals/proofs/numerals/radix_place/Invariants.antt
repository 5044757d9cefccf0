use Rattle.std.proofs.Common.{◌≡◌, ◌≤◌, ◌+◌, ◌-◌, length, drop}
use Rattle.std.specs.List.{position_or_len}
use Rattle.run_model.specs.Numbers.{is_radix_mark}
use Rattle.st_literals.proofs.numerals.radix_place.Given as goal

abbrev pub invariant-loop-at : goal.invariant-loop-at
invariant-loop-at l = record {
  inside : l.at ≤ length l.text;
  left : l.at + position_or_len is_radix_mark (drop l.at l.text) ≡ position_or_len is_radix_mark l.text;
}

abbrev pub decreases-loop-at : goal.decreases-loop-at
decreases-loop-at l = length l.text - l.at
