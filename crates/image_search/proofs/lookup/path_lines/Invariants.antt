use Rattle.std.proofs.Common.{ℕ, List, ◌++◌, drop}
use Rattle.image_queries.specs.Parts.{AreTexts}
use Rattle.image_search.specs.Parts.{StandsAmong, IsNodeLine}
use Rattle.image_search.proofs.lookup.path_lines.Given as goal

abbrev pub invariant-loop-path : goal.invariant-loop-path
invariant-loop-path l =
    (rest : List ℕ) → AreTexts (λ (place : ℕ) (path line : List ℕ). IsNodeLine l.owner (StandsAmong l.nodes) path line) l.path-index (drop l.path-index l.paths) rest
    → AreTexts (λ (place : ℕ) (path line : List ℕ). IsNodeLine l.owner (StandsAmong l.nodes) path line) 0 l.paths (l.text ++ rest)
