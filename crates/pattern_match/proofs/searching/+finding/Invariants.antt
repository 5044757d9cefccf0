use Rattle.std.proofs.Common.{◌≡◌, ◌+◌, ◌*◌, ◌++◌, drop}
use Rattle.tree_model.specs.Measure.{height}
use Rattle.pattern_model.specs.Search.{found_among, found}
use Rattle.pattern_match.specs.Words.{number_words}
use Rattle.pattern_match.specs.Gathering.{parts_from}
use Rattle.pattern_match.specs.Parts.{placed_parts, parts_height, places_height, onward}
use Rattle.pattern_match.proofs.searching.+finding.Given as goal

abbrev pub decreases-search_node : goal.decreases-search_node
decreases-search_node l = 4 * height l.node.now + 3

abbrev pub decreases-search_match : goal.decreases-search_match
decreases-search_match l = 4 * height l.node.now + 2

abbrev pub decreases-search_below : goal.decreases-search_below
decreases-search_below l = 4 * height l.node.now + 1

abbrev pub decreases-search_places : goal.decreases-search_places
decreases-search_places l = 4 * places_height l.places.now + 5

abbrev pub decreases-search_parts : goal.decreases-search_parts
decreases-search_parts l = 4 * parts_height l.parts.now + 4

abbrev pub invariant-search_places-loop-place : goal.invariant-search_places-loop-place
invariant-search_places-loop-place l =
    l.out.items ++ onward l.path (found_among (found (number_words l.names) l.pattern) (placed_parts (drop l.place-index l.places)))
    ≡ l.initial.out.items ++ onward l.path (found_among (found (number_words l.names) l.pattern) (placed_parts l.places))

abbrev pub invariant-search_parts-loop-part : goal.invariant-search_parts-loop-part
invariant-search_parts-loop-part l =
    l.out.items ++ onward l.path (found_among (found (number_words l.names) l.pattern) (parts_from (drop l.part-index l.parts)))
    ≡ l.initial.out.items ++ onward l.path (found_among (found (number_words l.names) l.pattern) (parts_from l.parts))
