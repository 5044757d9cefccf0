use Rattle.std.proofs.Common.{◌≡◌, ◌++◌, length}
use Rattle.text_model.specs.Pieces.{keywords_of}
use Rattle.pattern_trees.proofs.spelling.keywords_of.Given as goal

abbrev pub invariant-loop-at : goal.invariant-loop-at
invariant-loop-at l = l.keywords.items ++ keywords_of l.rest ≡ keywords_of l.selector

abbrev pub decreases-loop-at : goal.decreases-loop-at
decreases-loop-at l = length l.rest
