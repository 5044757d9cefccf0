use Rattle.std.proofs.Common.{◌≡◌, ◌++◌, ◌≤◌, drop, length, codes}
use Rattle.rb_base.specs.Names.{name_at}
use Rattle.tree_model.specs.Tree.{literals_of, map_literals}
use Rattle.tree_model.specs.Measure.{literal_weight, literals_weight}
use Rattle.text_model.specs.Pieces.{pieces_behind}
use Rattle.text_model.specs.Literals.{literal_texts}
use Rattle.st_formatter.proofs.literals.+literal.Given as goal

abbrev pub decreases-write_literal : goal.decreases-write_literal
decreases-write_literal l = literal_weight l.literal.now

abbrev pub decreases-write_literals : goal.decreases-write_literals
decreases-write_literals l = literals_weight (literals_of l.literals.now)

abbrev pub invariant-write_literals-loop-at : goal.invariant-write_literals-loop-at
invariant-write_literals-loop-at l =
    (l.at ≤ length l.rest)
    × (l.out ≡ pieces_behind (codes " ") (literal_texts (map_literals (name_at l.names) (literals_of (drop l.at l.rest)))) ++ l.initial.out)

abbrev pub decreases-write_literals-loop-at : goal.decreases-write_literals-loop-at
decreases-write_literals-loop-at l = l.at
