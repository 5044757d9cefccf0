use Rattle.std.proofs.Common.{◌≡◌, ◌≤◌, min, drop}
use Rattle.std.specs.Str.Parse.{digits_value, digits_value_after}
use Rattle.st_literals.proofs.numerals.digits.Given as goal

abbrev pub invariant-loop-byte : goal.invariant-loop-byte
invariant-loop-byte l = record {
  left : min (digits_value_after l.base l.value (drop l.byte-index l.text)) 18446744073709551615 ≡ min (digits_value l.base l.text) 18446744073709551615;
  fits : l.value ≤ 18446744073709551615;
}
