-- The puts that were read. Each leaves less to be read.
use Rattle.std.proofs.Common.{◌≡◌, ◌≤◌, ◌++◌, [], length}
use Rattle.case_tables.specs.CaseTexts.{puts_text}
use Rattle.case_tables.proofs.case.read_failing_puts.Given as goal

abbrev pub invariant-loop-table : goal.invariant-loop-table
invariant-loop-table l = record {
  read : l.fn.table.rest.now ≡ puts_text l.sink.refusals ++ l.table.rest.now;
  fresh : (l.sink.bytes ≡ []) × (l.sink.calls ≡ 0) × (l.sink.faults ≡ 0);
  shorter : length l.table.rest.now ≤ length l.fn.table.rest.now;
}

abbrev pub decreases-loop-table : goal.decreases-loop-table
decreases-loop-table l = length l.table.rest.now
