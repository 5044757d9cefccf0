-- The places that a walk through a pattern and a node has found.
use Rattle.std.specs.Prelude.{ℕ, if◌then◌else◌, Bool, List, [], ◌++◌, map, Option, Some, None, option_map}
use Rattle.tree_model.specs.Tree.{trees_of}
use Rattle.tree_model.specs.Nodes.{Placed}
use Rattle.st_tree.specs.View.{statements_of}
use Rattle.pattern_model.specs.Bindings.{BoundOf, a_part, a_run, a_selector, a_keyword, a_message}
use Rattle.pattern_model.specs.MatchTree.{PlaceOf, FoundOf}
use Rattle.patterns.specs.View.{meta_of}
use Rattle.pattern_match.specs.declared.standing.Standing.{Standing}
use Rattle.pattern_match.specs.declared.standing.Standing.TheVariants as standing
use Rattle.pattern_match.specs.declared.standing.Part.{Part}
use Rattle.pattern_match.specs.declared.standing.Place.{Place}
use Rattle.pattern_match.specs.declared.standing.Walk.{Walk}

-- what stands for a metavariable
abbrev pub bound_from : Standing → BoundOf ℕ
bound_from (standing.Part t) = a_part t.now
bound_from (standing.Run ss) = a_run (statements_of ss.now)
bound_from (standing.Selector n) = a_selector n
bound_from (standing.Keyword k) = a_keyword k
bound_from (standing.Message n ts) = a_message n (trees_of ts.now)

-- nodes with their paths
abbrev pub part_of : Part → Placed ℕ
part_of p = (p.path.items, p.node.now)

abbrev pub parts_from : List Part → List (Placed ℕ)
parts_from ps = map part_of ps

-- a place
abbrev pub place_of : Place → PlaceOf ℕ
place_of p = record { meta = meta_of p.meta; bound = bound_from p.bound; parts = parts_from p.parts.items }

-- the steps down to where a walk is, and the places that it has found
abbrev pub State : Type 0
State = List ℕ × List (PlaceOf ℕ)

abbrev pub state_of : Walk → State
state_of w = (w.steps.items, map place_of w.found.items)

-- nodes below a path
abbrev pub under : List ℕ → List (Placed ℕ) → List (Placed ℕ)
under path parts = map (λ e. (path ++ e.0, e.1)) parts

-- a place below a path; its parts are kept where its metavariable is doubled
abbrev pub kept : List ℕ → PlaceOf ℕ → PlaceOf ℕ
kept path x = record x { parts = if x.meta.doubled then under path x.parts else [] }

-- the state with more places, where there are some
abbrev pub gathered : State → FoundOf ℕ → Option State
gathered s o = option_map (λ xs. (s.0, s.1 ++ map (kept s.0) xs)) o

-- the state, where all fits so far
abbrev pub reached : Bool → State → Option State
reached b s = if b then Some s else None
