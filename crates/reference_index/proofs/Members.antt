-- The items of lists that are filtered or joined, and lists whose items differ.
use Rattle.std.proofs.Common.{◌≡◌, ◌⊎◌, inl, inr, ℕ, List, [], ◌∷◌, Bool, true, false, cond, Option, None, Some, Contains, nat_eq, refl, arith, eqb-true}
use Rattle.std.specs.Prelude.{filter}
use Rattle.std.specs.List.{list_any, flat_map, filter_map, cons_option, IsDistinct, AllByRecursion}
use Rattle.std.proofs.lemmas.Cmp.{nat_eq_equiv}
use Rattle.std.proofs.lemmas.List.Elements.{All-contains, filter_passes, Contains-append_cases}
use Rattle.std.proofs.lemmas.Map.Keys.{IsDistinct-head, IsDistinct-tail, IsDistinct-cons, IsDistinct-from_apart}
use Rattle.std.proofs.lemmas.Map.Views.{list_any-from_Contains, Contains-from_any}
use Rattle.mentions.proofs.Lists.{Contains-first, Contains-later, Contains-cases}

-- a test that does not pass fails
pub not-passed : (b : Bool) → (b ≡ true → ⊥) → b ≡ false
not-passed true h = absurd (h refl)
not-passed false h = refl

-- the empty list has nothing
pub none-in_nothing : {X : Type 0} (x : X) → Contains [] x → ⊥
none-in_nothing x h = omega arith

-- a number that a test finds is in the list
pub number-found : (n : ℕ) (ns : List ℕ) → list_any (nat_eq n) ns ≡ true → Contains ns n
number-found n ns h = Contains-from_any eqb-true n ns h

-- and it finds each that is
pub number-tested : (n : ℕ) (ns : List ℕ) → Contains ns n → list_any (nat_eq n) ns ≡ true
number-tested n ns h = list_any-from_Contains nat_eq_equiv n ns h

module _ {X : Type 0} where
  -- no list of nothing has an item twice
  pub IsDistinct-nil : (e : X → X → Bool) → IsDistinct e []
  IsDistinct-nil e = IsDistinct-from_apart e [] (λ i j d h k. absurd (omega arith))

  -- what holds of each item of a list holds of one
  pub fact-of : (P : X → Type 0) (xs : List X) (x : X) → AllByRecursion P xs → Contains xs x → P x
  fact-of P [] x all h = absurd (none-in_nothing x h)
  fact-of P (y ∷ ys) x all h = elim (Contains-cases y x ys h) [ inl e ↦ rw (← e) all.0 | inr there ↦ fact-of P ys x all.1 there ]

  -- a fact of each item that is there
  pub each-of : (P : X → Type 0) (xs : List X) → ((x : X) → Contains xs x → P x) → AllByRecursion P xs
  each-of P [] h = tt
  each-of P (x ∷ xs) h = (h x (Contains-first x x xs refl), each-of P xs (λ y c. h y (Contains-later x y xs c)))

  behind : (b : Bool) (y x : X) (ys : List X) → Contains ys x → Contains (cond b (y ∷ ys) ys) x
  behind true y x ys h = Contains-later y x ys h
  behind false y x ys h = h

  -- an item that passes is in the filter
  pub Contains-filtered : (p : X → Bool) (xs : List X) (x : X) → Contains xs x → p x ≡ true → Contains (filter p xs) x
  Contains-filtered p [] x h e = absurd (none-in_nothing x h)
  Contains-filtered p (y ∷ ys) x h e =
      elim (Contains-cases y x ys h) [
        | inl same ↦ rw (same, e) (Contains-first x x (filter p ys) refl)
        | inr there ↦ behind (p y) y x (filter p ys) (Contains-filtered p ys x there e)
      ]

  before : (b : Bool) (y x : X) (ys : List X) → Contains (cond b (y ∷ ys) ys) x → (y ≡ x) ⊎ Contains ys x
  before true y x ys h = Contains-cases y x ys h
  before false y x ys h = inr h

  -- an item of the filter is in the list
  pub Contains-unfiltered : (p : X → Bool) (xs : List X) (x : X) → Contains (filter p xs) x → Contains xs x
  Contains-unfiltered p [] x h = h
  Contains-unfiltered p (y ∷ ys) x h =
      elim (before (p y) y x (filter p ys) h) [
        | inl same ↦ Contains-first y x ys same
        | inr there ↦ Contains-later y x ys (Contains-unfiltered p ys x there)
      ]

  -- and passes
  pub filtered-passes : (p : X → Bool) (xs : List X) (x : X) → Contains (filter p xs) x → p x ≡ true
  filtered-passes p xs x h = All-contains (λ y. p y ≡ true) (filter p xs) x (filter_passes p xs) h

  -- what differs still differs in a filter
  pub IsDistinct-filter : (e : X → X → Bool) (p : X → Bool) (xs : List X) → IsDistinct e xs → IsDistinct e (filter p xs)
  IsDistinct-filter e p [] h = h
  IsDistinct-filter e p (x ∷ xs) h =
      kept (p x)
      (each-of _ (filter p xs) (λ y c. fact-of _ xs y (IsDistinct-head e x xs h) (Contains-unfiltered p xs y c)))
      (IsDistinct-filter e p xs (IsDistinct-tail e x xs h)) where
        kept : (b : Bool) → AllByRecursion (λ y. e x y ≡ false) (filter p xs) → IsDistinct e (filter p xs) → IsDistinct e (cond b (x ∷ filter p xs) (filter p xs))
        kept true all d = IsDistinct-cons e x (filter p xs) all d
        kept false all d = d

-- an item of a piece
pub record IsInPiece {X Y : Type 0} (f : X → List Y) (xs : List X) (y : Y) : Type 0 where
  pub piece : X
  pub among : Contains xs piece
  pub has : Contains (f piece) y

module _ {Y : Type 0} where
  given-behind : (o : Option Y) (ys : List Y) (y : Y) → Contains ys y → Contains (cons_option o ys) y
  given-behind None ys y h = h
  given-behind (Some z) ys y h = Contains-later z y ys h

module _ {X Y : Type 0} where
  -- an item of pieces that are joined is an item of one of them
  pub Contains-in_piece : (f : X → List Y) (xs : List X) (y : Y) → Contains (flat_map f xs) y → IsInPiece f xs y
  Contains-in_piece f [] y h = absurd (none-in_nothing y h)
  Contains-in_piece f (x ∷ xs) y h =
      elim (Contains-append_cases (f x) (flat_map f xs) y h) [
        | inl here ↦ record { piece = x; among = Contains-first x x xs refl; has = here }
        | inr there ↦
            let found = Contains-in_piece f xs y there in
            record { piece = found.piece; among = Contains-later x found.piece xs found.among; has = found.has }
      ]

  -- what an item gives is among what is given
  pub Contains-given : (h : X → Option Y) (xs : List X) (x : X) (y : Y) → h x ≡ Some y → Contains xs x → Contains (filter_map h xs) y
  Contains-given h [] x y e c = absurd (none-in_nothing x c)
  Contains-given h (z ∷ zs) x y e c =
      elim (Contains-cases z x zs c) [
        | inl same ↦ rw (same, e) (Contains-first y y (filter_map h zs) refl)
        | inr there ↦ given-behind (h z) (filter_map h zs) y (Contains-given h zs x y e there)
      ]
