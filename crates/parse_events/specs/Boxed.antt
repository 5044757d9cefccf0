-- Lists that stand behind a pointer, where there is one.
use Rattle.std.specs.Prelude.{ℕ, List, [], Option, Some, None, Vec, Box}

-- the items of a list
abbrev pub items_of : {X A B : Type 0} → Option (Box (Vec X A) B) → List X
items_of None = []
items_of (Some b) = b.value.items

-- the comments
abbrev pub comments_of : {A : Type 0} → Option (Box (List (List ℕ)) A) → List (List ℕ)
comments_of None = []
comments_of (Some b) = b.value
