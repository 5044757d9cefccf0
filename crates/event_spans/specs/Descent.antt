-- How a path is followed through nodes in preorder.
use Rattle.std.specs.Prelude.{ℕ, zero, suc, List, [], ◌∷◌, take, drop, Option, Some, None}
use Rattle.event_spans.specs.declared.place.Place.{Place}

-- the nodes from the outermost one of a number on
abbrev pub from_root : ℕ → List Place → List Place
from_root zero ps = ps
from_root (suc k) [] = []
from_root (suc k) (p ∷ ps) = from_root k (drop p.below ps)

-- the first node
abbrev pub first_of : List Place → Option Place
first_of [] = None
first_of (p ∷ ps) = Some p

-- the nodes in the first node
abbrev pub inside : List Place → List Place
inside [] = []
inside (p ∷ ps) = take p.below ps

-- the node where a path leads, and the given one where the path is empty
abbrev pub descend : Option Place → List Place → List ℕ → Option Place
descend found ps [] = found
descend found ps (k ∷ ks) = descend (first_of (from_root k ps)) (inside (from_root k ps)) ks
