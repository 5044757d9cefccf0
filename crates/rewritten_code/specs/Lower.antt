-- How high what doubled metavariables are bound to is.
use Rattle.std.specs.Prelude.{ℕ, if◌then◌else◌, max, List, [], ◌∷◌}
use Rattle.tree_model.specs.Measure.{height, trees_height, statements_height}
use Rattle.pattern_model.specs.Bindings.{BoundOf, a_part, a_run, a_selector, a_keyword, a_message, BindingOf}
use Rattle.pattern_match.specs.Bound.{held_of}
use Rattle.pattern_match.specs.declared.bindings.Held.{Held}

-- how high what is bound is
abbrev pub height_bound : {N : Type 0} → BoundOf N → ℕ
height_bound (a_part t) = height t
height_bound (a_run ss) = statements_height ss
height_bound (a_selector s) = 0
height_bound (a_keyword k) = 0
height_bound (a_message s ts) = trees_height ts

-- what a doubled metavariable is bound to
abbrev pub doubled_height : {N : Type 0} → BindingOf N → ℕ
doubled_height b = if b.meta.doubled then height_bound b.bound else 0

-- the highest of what they are bound to
abbrev pub bindings_height : List Held → ℕ
bindings_height [] = 0
bindings_height (b ∷ bs) = max (doubled_height (held_of b)) (bindings_height bs)
