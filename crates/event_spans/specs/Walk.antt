-- Nodes in preorder, walked through with their paths.
use Rattle.std.specs.Prelude.{ℕ, ◌+◌, Bool, ◌&&◌, if◌then◌else◌, ◌==◌, List, [], ◌∷◌, ◌++◌, take, slice_get, Option, Some, None, option_map}
use Rattle.std.specs.Option.{option_or}
use Rattle.rb_base.specs.declared.text.Span.{Span}
use Rattle.st_tree.specs.declared.path.Part.{Part}
use Rattle.st_tree.specs.declared.path.Part.TheVariants as part
use Rattle.event_spans.specs.declared.place.Place.{Place}
use Rattle.event_spans.specs.declared.runs.Run.{Run}
use Rattle.event_spans.specs.declared.search.NodeSpan.{NodeSpan}
use Rattle.event_spans.specs.Runs.{roots, run_of}

-- the number behind a number, or the first one
abbrev pub next_step : Option ℕ → ℕ
next_step None = 0
next_step (Some k) = k + 1

-- the path of a node at a depth, where the path of the node before it is known
abbrev pub next_path : ℕ → List ℕ → List ℕ
next_path d path = take d path ++ next_step (slice_get path d) ∷ []

-- a node with its path and the nodes in it
pub record Visit : Type 0 where
  pub path : List ℕ
  pub place : Place
  pub within : List Place

-- the nodes behind the node of a path
abbrev pub walked : List ℕ → List Place → List Visit
walked path [] = []
walked path (p ∷ ps) = record { path = next_path p.depth path; place = p; within = take p.below ps } ∷ walked (next_path p.depth path) ps

-- whether a node stands there
abbrev pub is_at : Span → Place → Bool
is_at span p = p.from == span.from && p.to == span.to

-- the path of the first node with the span
abbrev pub node_found : Span → List Visit → Option (List ℕ)
node_found span [] = None
node_found span (v ∷ vs) = if is_at span v.place then Some v.path else node_found span vs

-- the statements of a block that begin and end with the span
abbrev pub run_in_block : Span → Place → List Place → Option Run
run_in_block span p ps = if p.block then run_of 0 span (roots 0 ps) else None

-- the statements with the span of the first block that has such ones
abbrev pub run_found : Span → List Visit → Option Part
run_found span [] = None
run_found span (v ∷ vs) = option_or (option_map (λ (r : Run). part.Run v.path r.first r.count) (run_in_block span v.place v.within)) (run_found span vs)

-- the path and the span of each node
abbrev pub listed : List Visit → List NodeSpan
listed [] = []
listed (v ∷ vs) = record { path = v.path; span = record { from = v.place.from; to = v.place.to } } ∷ listed vs
