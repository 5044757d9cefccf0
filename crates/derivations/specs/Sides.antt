-- Statements of the sides of laws, and both sides.
use Rattle.std.specs.Prelude.{List, [], ◌∷◌}
use Rattle.pattern_model.specs.Patterns.{PatternOf, StatementsLike, no_statements_like, more_statements_like}

-- statements without comments
abbrev pub in_order : {N : Type 0} → List (PatternOf N) → StatementsLike N
in_order [] = no_statements_like
in_order (p ∷ ps) = more_statements_like [] p (in_order ps)
