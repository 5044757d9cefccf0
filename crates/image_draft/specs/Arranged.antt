-- Classes in the order of names.
use Rattle.std.specs.Prelude.{◌≡◌, ℕ, List, [], ◌∷◌, nat_eq, slice_get, Option, Some}
use Rattle.std.specs.Option.{option_and_then, option_map_or}
use Rattle.image_model.specs.Image.{ClassOf}
use Rattle.image_model.specs.Chain.{class_named}

-- the items that are there, in front of others
abbrev pub put_in_front : {X : Type 0} → Option X → List X → List X
put_in_front o xs = option_map_or (λ x. x ∷ xs) o xs

-- the class of each name, in the order of the names
abbrev pub in_order : List ℕ → List (ClassOf ℕ) → List (ClassOf ℕ)
in_order [] classes = []
in_order (n ∷ ns) classes = put_in_front (class_named nat_eq classes n) (in_order ns classes)

-- the class at each place, in the order of the places
abbrev pub at_places : List (Option ℕ) → List (ClassOf ℕ) → List (ClassOf ℕ)
at_places [] classes = []
at_places (o ∷ os) classes = put_in_front (option_and_then (slice_get classes) o) (at_places os classes)

-- the classes that are left in slots are those that stood there
abbrev pub AreLeft : List (ClassOf ℕ) → List (Option (ClassOf ℕ)) → Type 0
AreLeft classes slots = (k : ℕ) (c : ClassOf ℕ) → slice_get slots k ≡ Some (Some c) → slice_get classes k ≡ Some c
