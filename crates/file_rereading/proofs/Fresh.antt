-- What stands in front of one item of a list in which nothing stands twice, and tests of all items of a list.
use Rattle.std.proofs.Common.{◌≡◌, suc, Bool, true, false, cond, List, [], ◌∷◌, ◌++◌, length, map, find, filter, Some, None, slice_get, refl, ap, sym, ◌∙◌, arith, true≢false}
use Rattle.std.specs.List.{list_any, AllByRecursion}
use Rattle.std.specs.Prelude.{◌==◌, ◌||◌}
use Rattle.std.specs.Option.{option_map_or}
use Rattle.std.proofs.lemmas.Bool.{eqb-true}
use Rattle.image_model.specs.Valid.{HasNoRepeat}
use Rattle.file_laws.proofs.Redefined.{no_repeat_behind}

-- in a part at the end of a list nothing stands twice where it does not in the list
pub no_repeat_end : {Y : Type 0} (xs ys : List Y) → HasNoRepeat (xs ++ ys) → HasNoRepeat ys
no_repeat_end [] ys h = h
no_repeat_end (x ∷ xs) ys h = no_repeat_end xs ys (no_repeat_behind x (xs ++ ys) h)

-- the place of an item behind others
place_of : {X Y : Type 0} (key : X → Y) (front : List X) (x : X) (back : List X) → slice_get (map key (front ++ x ∷ back)) (length front) ≡ Some (key x)
place_of key [] x back = refl
place_of key (z ∷ zs) x back = place_of key zs x back

-- what stands before an item has another key
pub fresh : {X Y : Type 0} (key : X → Y) (front : List X) (x : X) (back : List X) → HasNoRepeat (map key (front ++ x ∷ back)) → AllByRecursion (λ z. key z ≡ key x → ⊥) front
fresh key [] x back h = tt
fresh key (z ∷ zs) x back h = (
  (λ e. let twice : 0 ≡ suc (length zs) = h 0 (suc (length zs)) (key x) (ap Some e) (place_of key zs x back) in omega (arith, twice)),
  fresh key zs x back (no_repeat_behind (key z) (map key (zs ++ x ∷ back)) h),
)

-- a search that no item passes
pub find_none : {X : Type 0} (p : X → Bool) (xs : List X) → AllByRecursion (λ x. p x ≡ false) xs → find p xs ≡ None
find_none p [] all = refl
find_none p (x ∷ xs) all = ap (λ (b : Bool). cond b (Some x) (find p xs)) all.0 ∙ find_none p xs all.1

-- a test of some item that none passes
pub any_none : {X : Type 0} (p : X → Bool) (xs : List X) → AllByRecursion (λ x. p x ≡ false) xs → list_any p xs ≡ false
any_none p [] all = refl
any_none p (x ∷ xs) all = ap (λ (b : Bool). b || list_any p xs) all.0 ∙ any_none p xs all.1

-- a fact of the items in front, and of those behind
pub all_front : {X : Type 0} (P : X → Type 0) (xs ys : List X) → AllByRecursion P (xs ++ ys) → AllByRecursion P xs
all_front P [] ys all = tt
all_front P (x ∷ xs) ys all = (all.0, all_front P xs ys all.1)

pub all_back : {X : Type 0} (P : X → Type 0) (xs ys : List X) → AllByRecursion P (xs ++ ys) → AllByRecursion P ys
all_back P [] ys all = all
all_back P (x ∷ xs) ys all = all_back P xs ys all.1

-- an empty list
pub none_in : {X : Type 0} (xs : List X) → (length xs == 0) ≡ true → xs ≡ []
none_in [] h = refl
none_in (x ∷ xs) h = let none : length (x ∷ xs) ≡ 0 = eqb-true (length (x ∷ xs)) 0 h in absurd (omega (arith, none))

-- a function that changes none of the items
pub unchanged : {X : Type 0} (f : X → X) (xs : List X) → AllByRecursion (λ x. f x ≡ x) xs → map f xs ≡ xs
unchanged f [] all = refl
unchanged f (x ∷ xs) all = λ j. all.0 j ∷ unchanged f xs all.1 j

-- a test that all items pass, and one that none passes
pub filter_all : {X : Type 0} (p : X → Bool) (xs : List X) → AllByRecursion (λ x. p x ≡ true) xs → filter p xs ≡ xs
filter_all p [] all = refl
filter_all p (x ∷ xs) all = ap (λ (b : Bool). cond b (x ∷ filter p xs) (filter p xs)) all.0 ∙ ap (λ (ys : List _). x ∷ ys) (filter_all p xs all.1)

pub filter_none : {X : Type 0} (p : X → Bool) (xs : List X) → AllByRecursion (λ x. p x ≡ false) xs → filter p xs ≡ []
filter_none p [] all = refl
filter_none p (x ∷ xs) all = ap (λ (b : Bool). cond b (x ∷ filter p xs) (filter p xs)) all.0 ∙ filter_none p xs all.1

-- where items that all are marked stand first, and what is found is not marked, none of them passes
pub none_marked : {X : Type 0} (mark p : X → Bool) (xs ys : List X) → AllByRecursion (λ x. mark x ≡ true) xs → option_map_or mark (find p (xs ++ ys)) false ≡ false → AllByRecursion (λ x. p x ≡ false) xs
none_marked mark p [] ys all h = tt
none_marked mark p (x ∷ xs) ys all h = by (p x) refl h (none_marked mark p xs ys all.1)
  where
    by : (b : Bool) → p x ≡ b → option_map_or mark (cond b (Some x) (find p (xs ++ ys))) false ≡ false → (option_map_or mark (find p (xs ++ ys)) false ≡ false → AllByRecursion (λ y. p y ≡ false) xs) → AllByRecursion (λ y. p y ≡ false) (x ∷ xs)
    by true e k rest = absurd (true≢false (sym all.0 ∙ k))
    by false e k rest = (e, rest k)
