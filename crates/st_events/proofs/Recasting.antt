-- The last event made one of a cascade.
use Rattle.std.proofs.Common.{◌≡◌, List, [], ◌∷◌, ◌++◌, refl, ap}
use Rattle.parse_events.specs.declared.event.Event.{Event}
use Rattle.st_events.specs.Steps.{recast, message_of}

-- the last event of a list
pub recast_last : (xs : List Event) (x : Event) → recast (xs ++ x ∷ []) ≡ xs ++ message_of x ∷ []
recast_last [] x = refl
recast_last (y ∷ []) x = refl
recast_last (y ∷ z ∷ zs) x = ap (λ ys. y ∷ ys) (recast_last (z ∷ zs) x)
