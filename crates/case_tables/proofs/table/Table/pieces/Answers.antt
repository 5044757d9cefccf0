-- One piece more.
use Rattle.std.proofs.Common.{rules}
use Rattle.case_tables.proofs.ReadPieces.{one_piece_more}
use Rattle.case_tables.proofs.table.Table.pieces.Goals as goal

pub loop-preserved : goal.loop-preserved
loop-preserved c = record {
  read = one_piece_more _ _ _ _ _ _ c.loop.invariant.read (c.in_ok-piece.ensures.read c.if-branch.true);
  shorter = search rules;
}
