-- Where a pattern matches in an image.
use Rattle.std.specs.Prelude.{List, [], ◌++◌, map, if◌then◌else◌}
use Rattle.std.specs.List.{flat_map, enumerate_from}
use Rattle.tree_model.specs.Tree.{SequenceOf}
use Rattle.image_model.specs.Image.{ImageOf}
use Rattle.image_model.specs.Nodes.{Place, in_method, in_doit, Use}
use Rattle.query_model.specs.Lines.{Text}
use Rattle.pattern_model.specs.Patterns.{PatternOf}
use Rattle.pattern_model.specs.Words.{text_pattern_words}
use Rattle.pattern_model.specs.Search.{all_matches}

-- the nodes of a method or do-it that the pattern matches
abbrev pub matches_in : PatternOf Text → Place → SequenceOf Text → List Use
matches_in p place b = map (λ path. record { place = place; path = path }) (all_matches text_pattern_words p b)

-- those of all methods of users, in the order of the image, and then of all do-its
abbrev pub matches : PatternOf Text → ImageOf Text → List Use
matches p i =
    flat_map (λ e. if e.1.kernel then [] else matches_in p (in_method e.0) e.1.tree.body) (enumerate_from 0 i.methods)
    ++ flat_map (λ e. matches_in p (in_doit e.0) e.1.body) (enumerate_from 0 i.doits)
