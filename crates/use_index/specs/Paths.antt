-- The paths of uses.
use Rattle.std.specs.Prelude.{ℕ, List, map, filter}
use Rattle.image_model.specs.Nodes.{Place, Use}
use Rattle.use_index.specs.declared.uses.Sought.{Sought}
use Rattle.use_index.specs.declared.uses.UseAt.{UseAt}
use Rattle.use_index.specs.Uses.{is_use}

-- a path in a place of the image
abbrev pub at_place : Place → List ℕ → Use
at_place place path = record { place = place; path = path }

-- the paths of the uses of a name that are looked for
abbrev pub paths : ℕ → Sought → List UseAt → List (List ℕ)
paths n what us = map (λ (u : UseAt). u.path) (filter (is_use n what) us)
