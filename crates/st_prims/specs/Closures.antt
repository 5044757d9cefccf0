-- What primitives see of a store and an image beside the heap.
use Rattle.std.specs.Prelude.{ℕ, List, length, slice_get, option_map, unwrap_or}
use Rattle.class_table.specs.Slots.{Slots}
use Rattle.class_table.specs.View.{image_of}
use Rattle.st_meaning.specs.declared.store.Closure.{Closure}
use Rattle.prim_calls.specs.Calls.{World}

-- how many parameters a closure has
abbrev pub arity_of : List Closure → ℕ → ℕ
arity_of closures k = unwrap_or (option_map (λ (c : Closure). length c.parameters.now) (slice_get closures k)) 0

-- the closures of a store and the classes of an image
abbrev pub world_of : List Closure → Slots → World
world_of closures s = record { arity = arity_of closures; classes = (image_of s).classes }
