use Rattle.std.proofs.Common.{◌≡◌, take, drop, map, codes}
use Rattle.rb_base.specs.Names.{name_at}
use Rattle.text_model.specs.Pieces.{keywords_of, pieces_behind, pieces_in_turn}
use Rattle.st_formatter.proofs.whole.write_pattern.Given as goal

abbrev pub invariant-loop-at : goal.invariant-loop-at
invariant-loop-at l = record {
  words : keywords_of l.words ≡ take l.at (keywords_of l.initial.words);
  pattern : l.pattern ≡ pieces_behind (codes " ") (pieces_in_turn (drop l.at (keywords_of l.initial.words)) (map (name_at l.names) (drop l.at l.arguments)));
}

abbrev pub decreases-loop-at : goal.decreases-loop-at
decreases-loop-at l = l.at
