-- What is still to be appended.
use Rattle.std.proofs.Common.{◌≡◌, ◌++◌, ◌-◌}
use Rattle.case_tables.specs.CaseTexts.{repeated}
use Rattle.case_tables.proofs.table.push_times.Given as goal

abbrev pub invariant-loop : goal.invariant-loop
invariant-loop l = l.into.items ++ repeated (l.times - l.counter) l.bytes ≡ l.initial.into.items ++ repeated l.times l.bytes
