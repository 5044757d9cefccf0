use Rattle.std.proofs.Common.{◌≡◌, ◌++◌, true, length}
use Rattle.std.specs.List.{list_all}
use Rattle.text_model.specs.Pieces.{keywords_of}
use Rattle.text_model.specs.Literals.{is_keyword}
use Rattle.pattern_match.proofs.words.keywords_in.Given as goal

abbrev pub invariant-loop-at : goal.invariant-loop-at
invariant-loop-at l = record {
  cut : l.keywords.items ++ keywords_of l.rest ≡ keywords_of l.text;
  keywords : list_all is_keyword l.keywords.items ≡ true;
}

abbrev pub decreases-loop-at : goal.decreases-loop-at
decreases-loop-at l = length l.rest
