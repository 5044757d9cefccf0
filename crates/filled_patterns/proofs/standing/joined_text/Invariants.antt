use Rattle.std.proofs.Common.{◌≡◌, ◌++◌, ℕ, List, drop, map}
use Rattle.std.specs.List.{concat}
use Rattle.pattern_model.specs.Bindings.{BindingOf}
use Rattle.patterns.specs.View.{keyword_of}
use Rattle.filled_patterns.specs.Left.{Holds}
use Rattle.filled_patterns.specs.Filling.{keyword_text}
use Rattle.filled_patterns.proofs.standing.joined_text.Given as goal

abbrev pub invariant-loop-keyword : goal.invariant-loop-keyword
invariant-loop-keyword l =
    (bs : List (BindingOf ℕ)) → Holds bs l.bindings
    → l.text ++ concat (map (keyword_text bs) (map keyword_of (drop l.keyword-index l.keywords))) ≡ concat (map (keyword_text bs) (map keyword_of l.keywords))
