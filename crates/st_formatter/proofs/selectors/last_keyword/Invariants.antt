use Rattle.std.proofs.Common.{◌≡◌, ◌<◌, [], ◌∷◌, drop, length}
use Rattle.text_model.specs.Pieces.{keywords_of}
use Rattle.st_formatter.proofs.selectors.last_keyword.Given as goal

abbrev pub invariant-loop-at : goal.invariant-loop-at
invariant-loop-at l = record {
  within : l.at < length l.selector;
  one : keywords_of (drop l.at l.selector) ≡ drop l.at l.selector ∷ [];
}

abbrev pub decreases-loop-at : goal.decreases-loop-at
decreases-loop-at l = l.at
