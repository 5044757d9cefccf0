use Rattle.std.proofs.Common.{◌≡◌, ◌++◌, ◌≤◌, drop, length, codes}
use Rattle.text_model.specs.Pieces.{pieces_behind}
use Rattle.text_model.specs.Expressions.{note_lines}
use Rattle.st_formatter.proofs.lines.write_notes.Given as goal

abbrev pub invariant-loop-at : goal.invariant-loop-at
invariant-loop-at l =
    (l.at ≤ length l.notes) × (l.out ≡ pieces_behind (codes "\n") (note_lines l.level (drop l.at l.notes)) ++ l.initial.out)

abbrev pub decreases-loop-at : goal.decreases-loop-at
decreases-loop-at l = l.at
