use Rattle.std.proofs.Common.{◌≡◌, drop}
use Rattle.std.specs.List.{list_any}
use Rattle.run_model.specs.Numbers.{is_radix_mark}
use Rattle.st_literals.proofs.numerals.has_radix.Given as goal

abbrev pub invariant-loop-byte : goal.invariant-loop-byte
invariant-loop-byte l = list_any is_radix_mark (drop l.byte-index l.text) ≡ list_any is_radix_mark l.text
