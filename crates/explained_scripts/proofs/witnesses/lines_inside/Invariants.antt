use Rattle.std.proofs.Common.{take}
use Rattle.explained_scripts.proofs.BroughtLines.{AreInside}
use Rattle.explained_scripts.proofs.witnesses.lines_inside.Given as goal

abbrev pub invariant-loop-witness : goal.invariant-loop-witness
invariant-loop-witness l = AreInside l.title l.source (take l.witness-index l.witnesses) l.lines.items
