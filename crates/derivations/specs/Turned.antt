-- A law at one node, over numbers.
use Rattle.std.specs.Prelude.{ℕ, ◌-◌, nat_lt, if◌then◌else◌, Bool, true, false, not, List, map, Option, Some, None, slice_get, option_and_then}
use Rattle.std.specs.List.{list_all, concat}
use Rattle.std.specs.Option.{option_map_or}
use Rattle.rb_base.specs.Names.{name_at, text_eq}
use Rattle.tree_model.specs.Tree.{TreeOf, var}
use Rattle.pattern_model.specs.Patterns.{PatternOf}
use Rattle.pattern_model.specs.Bindings.{BoundOf, a_part, BindingOf}
use Rattle.pattern_model.specs.Fill.{fill}
use Rattle.pattern_model.specs.MatchTree.{match_tree}
use Rattle.pattern_model.specs.Named.{map_pattern, map_binding}
use Rattle.pattern_match.specs.Words.{number_words}
use Rattle.certified_model.specs.Marks.{Text}
use Rattle.certified_model.specs.Certificates.{is_statement_meta}
use Rattle.derivations.specs.Signs.{Sign, of_node, of_selector}
use Rattle.derivations.specs.Numbered.{Table}

-- a metavariable for statements
abbrev pub is_statement_sign : Sign → Bool
is_statement_sign (of_node m) = is_statement_meta m.kind
is_statement_sign (of_selector s) = false

-- whether a number stands for one
abbrev pub is_for_statements : Table → ℕ → Bool
is_for_statements table n = if nat_lt n table.first then false else option_map_or is_statement_sign (slice_get table.signs (n - table.first)) false

-- which is no expression
abbrev pub fits_tree : Table → TreeOf ℕ → Bool
fits_tree table (var n) = not (is_for_statements table n)
fits_tree table t = true

abbrev pub fits : Table → BoundOf ℕ → Bool
fits table (a_part t) = fits_tree table t
fits table b = true

-- the node as the other side of a law, by the texts of its names, if the one side matches
abbrev pub turned_at : Table → List Text → PatternOf ℕ × PatternOf ℕ → TreeOf ℕ → Option (TreeOf Text)
turned_at table names sides t =
    option_and_then
    (λ bs. if list_all (λ (b : BindingOf ℕ). fits table b.bound) bs then Some (fill text_eq concat (map (map_binding (name_at names)) bs) (map_pattern (name_at names) sides.1)) else None)
    (match_tree (number_words names) sides.0 t)
