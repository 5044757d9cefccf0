-- What the program's bindings stand for.
use Rattle.std.specs.Prelude.{ℕ, Bool, not, List, ◌++◌, take, drop, filter, nat_eq, []}
use Rattle.std.specs.List.{list_any}
use Rattle.tree_model.specs.Tree.{trees_of}
use Rattle.st_tree.specs.View.{statements_of}
use Rattle.pattern_model.specs.Bindings.{BoundOf, a_part, a_run, a_selector, a_keyword, a_message, BindingOf, same_meta}
use Rattle.pattern_model.specs.Patterns.{MetaOf}
use Rattle.pattern_model.specs.MatchTree.{PlaceOf, bindings_of}
use Rattle.pattern_match.specs.Words.{number_words}
use Rattle.patterns.specs.View.{meta_of}
use Rattle.pattern_match.specs.declared.bindings.Bound.{Bound}
use Rattle.pattern_match.specs.declared.bindings.Bound.TheVariants as bound
use Rattle.pattern_match.specs.declared.bindings.Held.{Held}
use Rattle.pattern_match.specs.Gathering.{bound_from}

-- what is bound
abbrev pub bound_of : Bound → BoundOf ℕ
bound_of (bound.Part t) = a_part t.value
bound_of (bound.Run ss) = a_run (statements_of ss)
bound_of (bound.Selector n) = a_selector n
bound_of (bound.Keyword k) = a_keyword k
bound_of (bound.Whole m) = a_message m.selector (trees_of m.arguments)

-- a binding by reference
abbrev pub held_of : Held → BindingOf ℕ
held_of h = record { meta = meta_of h.meta; bound = bound_from h.bound }

-- whether a metavariable has one of these places
abbrev pub taken : List (PlaceOf ℕ) → MetaOf ℕ → Bool
taken ys m = list_any (λ y. same_meta nat_eq y.meta m) ys

-- the bindings of others
abbrev pub left : List (PlaceOf ℕ) → List (BindingOf ℕ) → List (BindingOf ℕ)
left ys bs = filter (λ b. not (taken ys b.meta)) bs

-- bindings, and those that the places from a number on add
abbrev pub with_others : List (PlaceOf ℕ) → ℕ → List (BindingOf ℕ) → List (BindingOf ℕ)
with_others xs i bs = bs ++ left (take i xs) (bindings_of (number_words []) (drop i xs))
