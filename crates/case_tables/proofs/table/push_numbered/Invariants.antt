-- What is still to be appended.
use Rattle.std.proofs.Common.{◌≡◌, ◌++◌, drop}
use Rattle.case_tables.specs.CaseTexts.{with_number}
use Rattle.case_tables.proofs.table.push_numbered.Given as goal

abbrev pub invariant-loop-byte : goal.invariant-loop-byte
invariant-loop-byte l = l.into.items ++ with_number l.number (drop l.byte-index l.bytes) ≡ l.initial.into.items ++ with_number l.number l.bytes
