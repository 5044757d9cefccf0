-- Classes in the order of names.
use Rattle.std.proofs.Common.{◌≡◌, ℕ, ◌+◌, ◌<◌, List, [], ◌∷◌, ◌++◌, length, map, take, get_or, Option, Some, None, slice_get, refl, sym, ap, ◌∙◌}
use Rattle.std.specs.Option.{option_and_then}
use Rattle.std.proofs.lemmas.List.{map-append, take_more}
use Rattle.image_model.specs.Image.{ClassOf}
use Rattle.image_draft.specs.Table.{place_in}
use Rattle.image_draft.specs.Arranged.{put_in_front, in_order, at_places}
use Rattle.image_draft.proofs.ClassPlaces.{find_place}

-- one more of those in front
pub taken_more : {X : Type 0} (xs : List X) (i : ℕ) (x : X) → i < length xs → x ≡ get_or xs i x → take (i + 1) xs ≡ take i xs ++ x ∷ []
taken_more xs i x h r = take_more xs i x h ∙ ap (λ y. take i xs ++ y ∷ []) (sym r)

pub map_more : {X Y : Type 0} (f : X → Y) (xs : List X) (i : ℕ) (x : X) → i < length xs → x ≡ get_or xs i x → map f (take (i + 1) xs) ≡ map f (take i xs) ++ f x ∷ []
map_more f xs i x h r = ap (map f) (taken_more xs i x h r) ∙ map-append f (take i xs) (x ∷ [])

-- the classes at places behind others
at_places_behind : (os qs : List (Option ℕ)) (cs : List (ClassOf ℕ)) → at_places (os ++ qs) cs ≡ at_places os cs ++ at_places qs cs
at_places_behind [] qs cs = refl
at_places_behind (o ∷ os) qs cs = by (option_and_then (slice_get cs) o) (at_places_behind os qs cs)
  where
    by : (c : Option (ClassOf ℕ)) → at_places (os ++ qs) cs ≡ at_places os cs ++ at_places qs cs → put_in_front c (at_places (os ++ qs) cs) ≡ put_in_front c (at_places os cs) ++ at_places qs cs
    by None h = h
    by (Some d) h = ap (λ ds. d ∷ ds) h

pub at_places_more : (os : List (Option ℕ)) (cs : List (ClassOf ℕ)) (i : ℕ) (o : Option ℕ) → i < length os → at_places (take (i + 1) os) cs ≡ at_places (take i os) cs ++ at_places (get_or os i o ∷ []) cs
at_places_more os cs i o h = ap (λ qs. at_places qs cs) (take_more os i o h) ∙ at_places_behind (take i os) (get_or os i o ∷ []) cs

-- the classes at the places of names are the classes of the names
pub at_their_places : (ns : List ℕ) (cs : List (ClassOf ℕ)) → at_places (map (place_in cs) ns) cs ≡ in_order ns cs
at_their_places [] cs = refl
at_their_places (n ∷ ns) cs = (λ i. put_in_front (sym (find_place cs n) i) (at_their_places ns cs i))
