-- What stands above a thing.
use Rattle.std.specs.Prelude.{ℕ, zero, suc, List, [], ◌∷◌, Option, None}
use Rattle.std.specs.Option.{option_and_then, option_map_or, option_or}

-- the thing, what is above it, and so on, at most k of them
abbrev pub upwards : {X : Type 0} → (X → Option X) → ℕ → Option X → List X
upwards above zero o = []
upwards above (suc k) o = option_map_or (λ x. x ∷ upwards above k (above x)) o []

-- the first that the function gives of the items
abbrev pub first_given : {X Y : Type 0} → (X → Option Y) → List X → Option Y
first_given f [] = None
first_given f (x ∷ xs) = option_or (f x) (first_given f xs)

-- the n-th of the thing and what is above it, counted from 0
abbrev pub nth_above : {X : Type 0} → (X → Option X) → ℕ → Option X → Option X
nth_above above zero o = o
nth_above above (suc n) o = option_and_then (λ x. nth_above above n (above x)) o
