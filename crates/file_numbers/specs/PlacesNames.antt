-- A fact of each name in the places that are stated.
use Rattle.std.specs.List.{AllByRecursion}
use Rattle.file_model.specs.Places.{ClassPlaceOf, MethodPlaceOf, PlacesOf}

-- of the names in the place of a method
abbrev pub MethodPlaceNames : {N : Type 0} → (N → Type 0) → MethodPlaceOf N → Type 0
MethodPlaceNames P p = P p.class × P p.selector

-- of each name in the places
pub record PlacesNames {N : Type 0} (P : N → Type 0) (places : PlacesOf N) : Type 0 where
  pub classes : AllByRecursion (λ (p : ClassPlaceOf N). P p.class) places.classes
  pub methods : AllByRecursion (MethodPlaceNames P) places.methods
