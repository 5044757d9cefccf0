use Rattle.std.proofs.Common.{take}
use Rattle.class_table.specs.View.{image_of}
use Rattle.refusal_witnesses.specs.Lines.{AreLines}
use Rattle.witness_texts.proofs.StartLines.{over_texts}
use Rattle.witness_texts.proofs.lines.witness_lines.Given as goal

abbrev pub invariant-loop-witness : goal.invariant-loop-witness
invariant-loop-witness l = AreLines (image_of l.image) (over_texts l.image (take l.witness-index l.witnesses)) l.lines.items
