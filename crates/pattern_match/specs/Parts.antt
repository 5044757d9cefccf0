-- The parts of code that a search goes on in.
use Rattle.std.specs.Prelude.{ℕ, max, List, [], ◌∷◌, ◌++◌, map, flat_map}
use Rattle.tree_model.specs.Measure.{height}
use Rattle.tree_model.specs.Nodes.{Placed}
use Rattle.pattern_model.specs.Patterns.{PatternOf, meta}
use Rattle.pattern_match.specs.declared.standing.Part.{Part}
use Rattle.pattern_match.specs.declared.standing.Place.{Place}
use Rattle.pattern_match.specs.Gathering.{parts_from}

-- the parts of all places
abbrev pub placed_parts : List Place → List (Placed ℕ)
placed_parts ps = flat_map (λ p. parts_from p.parts.items) ps

-- how high the highest of the nodes is
abbrev pub parts_height : List Part → ℕ
parts_height [] = 0
parts_height (p ∷ ps) = max (height p.node.now) (parts_height ps)

abbrev pub places_height : List Place → ℕ
places_height [] = 0
places_height (p ∷ ps) = max (parts_height p.parts.items) (places_height ps)

-- of those that are searched at the places of a match: where the pattern is one metavariable, none
abbrev pub searched_height : PatternOf ℕ → List Place → ℕ
searched_height (meta m) ps = 0
searched_height p ps = places_height ps

-- paths that lead on from the end of a path
abbrev pub onward : List ℕ → List (List ℕ) → List (List ℕ)
onward path paths = map (λ p. path ++ p) paths
