-- The pieces that were read. Each leaves less to be read.
use Rattle.std.proofs.Common.{◌≤◌, length}
use Rattle.case_tables.specs.CaseTexts.{ReadsPieces}
use Rattle.case_tables.proofs.table.Table.pieces.Given as goal

abbrev pub invariant-loop : goal.invariant-loop
invariant-loop l = record {
  read : ReadsPieces l.fn.self.rest.now l.self.rest.now l.fn.into.items l.into.items;
  shorter : length l.self.rest.now ≤ length l.fn.self.rest.now;
}

abbrev pub decreases-loop : goal.decreases-loop
decreases-loop l = length l.self.rest.now
