-- What is still to be appended.
use Rattle.std.proofs.Common.{◌≡◌, ◌++◌, ◌-◌}
use Rattle.case_tables.specs.CaseTexts.{counted}
use Rattle.case_tables.proofs.table.push_count.Given as goal

abbrev pub invariant-loop-number : goal.invariant-loop-number
invariant-loop-number l = l.into.items ++ counted l.number (l.before - l.number) l.bytes ≡ l.initial.into.items ++ counted l.fn.from (l.before - l.fn.from) l.bytes
