use Rattle.std.proofs.Common.{◌≡◌, ◌++◌, ◌≤◌, drop, length, map, codes}
use Rattle.rb_base.specs.Names.{name_at}
use Rattle.text_model.specs.Pieces.{pieces_behind}
use Rattle.st_formatter.proofs.lines.write_spaced.Given as goal

abbrev pub invariant-loop-at : goal.invariant-loop-at
invariant-loop-at l =
    (l.at ≤ length l.names_in_order) × (l.out ≡ pieces_behind (codes " ") (map (name_at l.names) (drop l.at l.names_in_order)) ++ l.initial.out)

abbrev pub decreases-loop-at : goal.decreases-loop-at
decreases-loop-at l = l.at
