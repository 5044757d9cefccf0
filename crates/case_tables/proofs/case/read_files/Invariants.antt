-- The files that were read. Each leaves less to be read.
use Rattle.std.proofs.Common.{◌≤◌, length}
use Rattle.case_tables.proofs.ReadCase.{FilesRead}
use Rattle.case_tables.proofs.case.read_files.Given as goal

abbrev pub invariant-loop-alloc : goal.invariant-loop-alloc
invariant-loop-alloc l = record {
  read : FilesRead l.fn.table.rest.now l.table.rest.now l.shelf;
  shorter : length l.table.rest.now ≤ length l.fn.table.rest.now;
}

abbrev pub decreases-loop-alloc : goal.decreases-loop-alloc
decreases-loop-alloc l = length l.table.rest.now
