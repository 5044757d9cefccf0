-- The places that a file of changes states for classes and methods, over any type of names, and what is settled by them.
use Rattle.std.specs.Prelude.{ℕ, suc, ◌-◌, nat_lt, List, [], ◌∷◌, ◌++◌, map, filter, find, take, drop, Bool, not, ◌&&◌, if◌then◌else◌, Option, Some, None}
use Rattle.std.specs.Bool.{beq}
use Rattle.std.specs.Option.{option_map, option_map_or}
use Rattle.image_model.specs.Image.{ClassOf, EntryOf, ImageOf}
use Rattle.image_model.specs.Lookup.{is_method}
use Rattle.file_model.specs.Changes.{ChangeOf, Define, DefineAt, Comment, SetClassSide, RemoveMethod, RemoveClass}
use Rattle.file_model.specs.Hierarchy.{settled}

-- a place that is stated for the class of a name
pub record ClassPlaceOf (N : Type 0) : Type 0 where
  pub class : N
  pub place : ℕ

-- a place that is stated for the method of a class, a side and a selector
pub record MethodPlaceOf (N : Type 0) : Type 0 where
  pub class : N
  pub meta : Bool
  pub selector : N
  pub place : ℕ

-- the places that were stated so far, the last one first; and the place of the next method of the run, where its beginning states one
pub record PlacesOf (N : Type 0) : Type 0 where
  pub classes : List (ClassPlaceOf N)
  pub methods : List (MethodPlaceOf N)
  pub next : Option ℕ

-- no place was stated
abbrev pub no_places : {N : Type 0} → PlacesOf N
no_places = record { classes = []; methods = []; next = None }

-- the place of a class: the last one that was stated for its name
abbrev pub class_place : {N : Type 0} → (N → N → Bool) → List (ClassPlaceOf N) → ClassOf N → Option ℕ
class_place same places c = option_map (λ (p : ClassPlaceOf _). p.place) (find (λ (p : ClassPlaceOf _). same p.class c.name) places)

-- the place of a method: the last one that was stated for its class, its side and its selector
abbrev pub method_place : {N : Type 0} → (N → N → Bool) → List (MethodPlaceOf N) → EntryOf N → Option ℕ
method_place same places m =
    option_map (λ (p : MethodPlaceOf _). p.place) (find (λ (p : MethodPlaceOf _). is_method same p.class p.meta p.selector m) places)

-- a place is stated for the class of a name
abbrev pub with_class_place : {N : Type 0} → N → ℕ → PlacesOf N → PlacesOf N
with_class_place n k places = record places { classes = record { class = n; place = k } ∷ places.classes }

-- a place is stated for a method
abbrev pub with_method_place : {N : Type 0} → N → Bool → N → ℕ → PlacesOf N → PlacesOf N
with_method_place c meta s k places =
    record places { methods = record { class = c; meta = meta; selector = s; place = k } ∷ places.methods }

-- a run of methods begins, whose first method has a place or none
abbrev pub opened_at : {N : Type 0} → Option ℕ → PlacesOf N → PlacesOf N
opened_at o places = record places { next = o }

-- a method of a run has the next place, where its run states places
abbrev pub places_behind : {N : Type 0} → N → Bool → N → PlacesOf N → PlacesOf N
places_behind c meta s places =
    option_map_or (λ k. opened_at (Some (suc k)) (with_method_place c meta s k places)) places.next places

-- whether a place is that of the method of a class, a side and a selector
abbrev pub is_place_of : {N : Type 0} → (N → N → Bool) → N → Bool → N → MethodPlaceOf N → Bool
is_place_of same c meta s p = same c p.class && (beq meta p.meta && same s p.selector)

-- the places after a change: a removal forgets the places of what it removes
abbrev pub places_after : {N : Type 0} → (N → N → Bool) → ChangeOf N → PlacesOf N → PlacesOf N
places_after same (Define d) places = places
places_after same (DefineAt d k) places = with_class_place d.name k places
places_after same (Comment n text) places = places
places_after same (SetClassSide n names) places = places
places_after same (RemoveMethod c meta s) places =
    record places { methods = filter (λ p. not (is_place_of same c meta s p)) places.methods }
places_after same (RemoveClass n) places = record places {
  classes = filter (λ (p : ClassPlaceOf _). not (same n p.class)) places.classes;
  methods = filter (λ (p : MethodPlaceOf _). not (same n p.class)) places.methods;
}

-- an item with its place
pub record PlacedOf (X : Type 0) : Type 0 where
  pub place : ℕ
  pub item : X

-- the items that have a place, with it, in order
abbrev pub placed_items : {X : Type 0} → (X → Option ℕ) → List X → List (PlacedOf X)
placed_items place [] = []
placed_items place (x ∷ xs) = option_map_or (λ k. record { place = k; item = x } ∷ placed_items place xs) (place x) (placed_items place xs)

-- the items that have no place, in order
abbrev pub unplaced_items : {X : Type 0} → (X → Option ℕ) → List X → List X
unplaced_items place [] = []
unplaced_items place (x ∷ xs) = option_map_or (λ k. unplaced_items place xs) (place x) (x ∷ unplaced_items place xs)

-- an item among others in ascending order, before those of the same place
abbrev pub put_among : {X : Type 0} → PlacedOf X → List (PlacedOf X) → List (PlacedOf X)
put_among p [] = p ∷ []
put_among p (q ∷ qs) = if nat_lt q.place p.place then q ∷ put_among p qs else p ∷ q ∷ qs

-- items by ascending place, and those of one place in the order that they had
abbrev pub by_place : {X : Type 0} → List (PlacedOf X) → List (PlacedOf X)
by_place [] = []
by_place (p ∷ ps) = put_among p (by_place ps)

-- an item at a place, counted from 1, or last where there are fewer items
abbrev pub put_at : {X : Type 0} → PlacedOf X → List X → List X
put_at p xs = take (p.place - 1) xs ++ p.item ∷ drop (p.place - 1) xs

-- items put in one after the other
abbrev pub put_all : {X : Type 0} → List (PlacedOf X) → List X → List X
put_all [] xs = xs
put_all (p ∷ ps) xs = put_all ps (put_at p xs)

-- items of which those that have a place are taken out and put in again at it
abbrev pub put_again : {X : Type 0} → (X → Option ℕ) → List X → List X
put_again place xs = put_all (by_place (placed_items place xs)) (unplaced_items place xs)

-- the same where places count the items of the user alone, before which those of the kernel stand
abbrev pub put_again_behind : {X : Type 0} → (X → Bool) → (X → Option ℕ) → List X → List X
put_again_behind is_kernel place xs = filter is_kernel xs ++ put_again place (filter (λ x. not (is_kernel x)) xs)

-- the image with methods and classes at the places that are stated for them, and the classes in order
abbrev pub placed : {N : Type 0} → (N → N → Bool) → PlacesOf N → ImageOf N → ImageOf N
placed same places i = record i {
  classes = settled same (put_again_behind (λ (c : ClassOf _). c.kernel) (class_place same places.classes) i.classes);
  methods = put_again_behind (λ (m : EntryOf _). m.kernel) (method_place same places.methods) i.methods;
}

-- the same places with each name changed
abbrev pub map_places : {M N : Type 0} → (M → N) → PlacesOf M → PlacesOf N
map_places f places = record {
  classes = map (λ (p : ClassPlaceOf _). record { class = f p.class; place = p.place }) places.classes;
  methods = map (λ (p : MethodPlaceOf _). record { class = f p.class; meta = p.meta; selector = f p.selector; place = p.place }) places.methods;
  next = places.next;
}
