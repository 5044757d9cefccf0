-- Lists in which items are replaced by others of the same name, or put behind, and the places that items have.
use Rattle.std.specs.Prelude.{◌≡◌, ◌⊎◌, ℕ, suc, List, [], ◌∷◌, ◌++◌, map, Bool, true, if◌then◌else◌, Option, Some, None}
use Rattle.std.specs.List.{AllByRecursion}
use Rattle.file_model.specs.Places.{PlacedOf, put_again}
use Rattle.change_model.specs.Differs.{is_among, in_both, differing_from, stays}

-- an item of a list
abbrev pub Has : {X : Type 0} → X → List X → Type 0
Has z [] = ⊥
Has z (x ∷ xs) = (z ≡ x) ⊎ Has z xs

-- the same items, in any order
pub record HaveSame {X : Type 0} (xs ys : List X) : Type 0 where
  pub there : (z : X) → Has z xs → Has z ys
  pub back : (z : X) → Has z ys → Has z xs

-- no two items are alike
abbrev pub AreApart : {X : Type 0} → (X → X → Bool) → List X → Type 0
AreApart alike [] = Unit {0}
AreApart alike (x ∷ xs) = AllByRecursion (λ y. alike x y ≡ true → ⊥) xs × AreApart alike xs

-- each item that has a place stands at it, counted from the number behind k
abbrev pub StandAtPlaces : {X : Type 0} → (X → Option ℕ) → ℕ → List X → Type 0
StandAtPlaces place k [] = Unit {0}
StandAtPlaces place k (x ∷ xs) = ((place x ≡ None) ⊎ (place x ≡ Some (suc k))) × StandAtPlaces place (suc k) xs

-- the items with this one in place of the one that is alike, or at the end
abbrev pub with_item : {X : Type 0} → (X → X → Bool) → X → List X → List X
with_item alike y xs = if is_among alike xs y then map (λ x. if alike y x then y else x) xs else xs ++ y ∷ []

-- one item after the other is put in
abbrev pub with_items : {X : Type 0} → (X → X → Bool) → List X → List X → List X
with_items alike [] xs = xs
with_items alike (y ∷ ys) xs = with_items alike ys (with_item alike y xs)

-- the place of an item once places are stated for items, one after the other
abbrev pub place_after : {X : Type 0} → (X → X → Bool) → List (PlacedOf X) → (X → Option ℕ) → X → Option ℕ
place_after alike [] place x = place x
place_after alike (p ∷ ps) place x = place_after alike ps (λ z. if alike p.item z then Some p.place else place z) x

-- an item without its place
abbrev pub item_of : {X : Type 0} → PlacedOf X → X
item_of p = p.item

-- the items of one list that the other has too, with those of the other that differ put in and put at their places
abbrev pub brought : {X : Type 0} → (X → X → Bool) → (X → X → Bool) → List X → List X → List X
brought alike equal xs ys =
    put_again (place_after alike (differing_from 1 (stays alike equal ys xs) ys) (λ x. None))
    (with_items alike (map item_of (differing_from 1 (stays alike equal ys xs) ys)) (in_both alike xs ys))
