-- The loads that were read. Each leaves less to be read.
use Rattle.std.proofs.Common.{◌≡◌, ◌≤◌, ◌++◌, ℕ, List, length}
use Rattle.case_tables.specs.CaseTexts.{loads_text}
use Rattle.case_tables.proofs.case.read_failing_loads.Given as goal

abbrev pub invariant-loop-shelf : goal.invariant-loop-shelf
invariant-loop-shelf l = record {
  loads : List ℕ;
  read : l.fn.table.rest.now ≡ loads_text loads ++ l.table.rest.now;
  fail : l.shelf ≡ record l.fn.shelf { refusals = l.fn.shelf.refusals ++ loads };
  shorter : length l.table.rest.now ≤ length l.fn.table.rest.now;
}

abbrev pub decreases-loop-shelf : goal.decreases-loop-shelf
decreases-loop-shelf l = length l.table.rest.now
