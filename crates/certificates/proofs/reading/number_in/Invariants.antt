use Rattle.std.proofs.Common.{◌≡◌, ◌≤◌, ◌++◌, length}
use Rattle.std.specs.Fmt.{decimal}
use Rattle.certificates.specs.Stops.{a_number, in_number, left_from}
use Rattle.certificates.proofs.reading.number_in.Given as goal

abbrev pub invariant-digits : goal.invariant-digits
invariant-digits l = record {
  from_one : 1 ≤ l.number;
  nine : l.number ≤ 999999999;
  spelled : l.fn.text ≡ decimal l.number ++ l.rest;
  goes_on : left_from a_number l.fn.text ≡ left_from (in_number l.number) l.rest;
}

abbrev pub decreases-digits : goal.decreases-digits
decreases-digits l = length l.rest
