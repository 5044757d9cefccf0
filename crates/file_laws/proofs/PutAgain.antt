-- Items that are taken out and put in again at their places are the same items.
use Rattle.std.proofs.Common.{◌≡◌, ℕ, ◌-◌, Bool, true, false, not, cond, List, [], ◌∷◌, ◌++◌, map, filter, take, drop, Option, Some, None, refl, sym, ap, subst, ◌∙◌}
use Rattle.std.specs.Prelude.{nat_lt, if◌then◌else◌}
use Rattle.std.specs.List.{AllByRecursion}
use Rattle.std.specs.List.Sorted.{IsPermutation}
use Rattle.std.specs.Option.{option_map_or}
use Rattle.std.proofs.lemmas.List.{append-nil, take-append-drop}
use Rattle.std.proofs.lemmas.List.Elements.{filter-append}
use Rattle.std.proofs.lemmas.List.Sorted.{IsPermutation-refl, IsPermutation-sym, IsPermutation-trans, IsPermutation-cons, IsPermutation-middle, IsPermutation-append_left, IsPermutation-append_right, IsPermutation-map, IsPermutation-filter_both}
use Rattle.file_model.specs.Places.{PlacedOf, placed_items, unplaced_items, put_among, by_place, put_at, put_all, put_again, put_again_behind}
use Rattle.file_laws.proofs.SettledAgain.{All-reordered}

-- where all items pass, all stay
pub filter_all : {X : Type 0} (p : X → Bool) (xs : List X) → AllByRecursion (λ x. p x ≡ true) xs → filter p xs ≡ xs
filter_all p [] all = refl
filter_all p (x ∷ xs) all = ap (λ b. cond b (x ∷ filter p xs) (filter p xs)) all.0 ∙ ap (λ ys. x ∷ ys) (filter_all p xs all.1)

-- where no item passes, none stays
pub filter_none : {X : Type 0} (p : X → Bool) (xs : List X) → AllByRecursion (λ x. p x ≡ false) xs → filter p xs ≡ []
filter_none p [] all = refl
filter_none p (x ∷ xs) all = ap (λ b. cond b (x ∷ filter p xs) (filter p xs)) all.0 ∙ filter_none p xs all.1

-- where all items pass, none stays by the other test
pub filter_not_all : {X : Type 0} (p : X → Bool) (xs : List X) → AllByRecursion (λ x. p x ≡ true) xs → filter (λ x. not (p x)) xs ≡ []
filter_not_all p [] all = refl
filter_not_all p (x ∷ xs) all = ap (λ b. cond (not b) (x ∷ filter (λ y. not (p y)) xs) (filter (λ y. not (p y)) xs)) all.0 ∙ filter_not_all p xs all.1

-- where no item passes, all stay by the other test
pub filter_not_none : {X : Type 0} (p : X → Bool) (xs : List X) → AllByRecursion (λ x. p x ≡ false) xs → filter (λ x. not (p x)) xs ≡ xs
filter_not_none p [] all = refl
filter_not_none p (x ∷ xs) all = ap (λ b. cond (not b) (x ∷ filter (λ y. not (p y)) xs) (filter (λ y. not (p y)) xs)) all.0 ∙ ap (λ ys. x ∷ ys) (filter_not_none p xs all.1)

-- the items that pass
pub filter_pass : {X : Type 0} (p : X → Bool) (xs : List X) → AllByRecursion (λ x. p x ≡ true) (filter p xs)
filter_pass p [] = tt
filter_pass {X} p (x ∷ xs) = by (p x) refl (filter_pass p xs)
  where
    by : (b : Bool) → p x ≡ b → AllByRecursion (λ y. p y ≡ true) (filter p xs) → AllByRecursion (λ y. p y ≡ true) (cond b (x ∷ filter p xs) (filter p xs))
    by true e rest = (e, rest)
    by false e rest = rest

-- the items that do not pass
pub filter_fail : {X : Type 0} (p : X → Bool) (xs : List X) → AllByRecursion (λ x. p x ≡ false) (filter (λ x. not (p x)) xs)
filter_fail p [] = tt
filter_fail {X} p (x ∷ xs) = by (p x) refl (filter_fail p xs)
  where
    by : (b : Bool) → p x ≡ b → AllByRecursion (λ y. p y ≡ false) (filter (λ y. not (p y)) xs) → AllByRecursion (λ y. p y ≡ false) (cond (not b) (x ∷ filter (λ y. not (p y)) xs) (filter (λ y. not (p y)) xs))
    by true e rest = rest
    by false e rest = (e, rest)

-- no item has a place
abbrev pub nowhere : {X : Type 0} → X → Option ℕ
nowhere x = None

nowhere_none : {X : Type 0} (xs : List X) → AllByRecursion (λ x. nowhere x ≡ None) xs
nowhere_none [] = tt
nowhere_none (x ∷ xs) = (refl, nowhere_none xs)

-- an item without its place
abbrev pub item_of : {X : Type 0} → PlacedOf X → X
item_of p = p.item

module _ {X : Type 0} where
  -- an item is put in
  put_at_same : (p : PlacedOf X) (xs : List X) → IsPermutation (p.item ∷ xs) (put_at p xs)
  put_at_same p xs =
      let front = take (p.place - 1) xs in
      let back = drop (p.place - 1) xs in
      subst (λ (ys : List X). IsPermutation (p.item ∷ ys) (put_at p xs)) (take-append-drop (p.place - 1) xs)
      (IsPermutation-sym (front ++ p.item ∷ back) (p.item ∷ (front ++ back)) (IsPermutation-middle front p.item back))

  -- items are put in, one after the other
  put_all_same : (ps : List (PlacedOf X)) (xs : List X) → IsPermutation (map item_of ps ++ xs) (put_all ps xs)
  put_all_same [] xs = IsPermutation-refl xs
  put_all_same (p ∷ ps) xs =
      let items = map item_of ps in
      IsPermutation-trans (p.item ∷ (items ++ xs)) (items ++ p.item ∷ xs) (put_all ps (put_at p xs)) (IsPermutation-sym (items ++ p.item ∷ xs) (p.item ∷ (items ++ xs)) (IsPermutation-middle items p.item xs))
      (IsPermutation-trans (items ++ p.item ∷ xs) (items ++ put_at p xs) (put_all ps (put_at p xs)) (IsPermutation-append_right items (p.item ∷ xs) (put_at p xs) (put_at_same p xs)) (put_all_same ps (put_at p xs)))

  -- items by their places are the same items
  put_among_same : (p : PlacedOf X) (qs : List (PlacedOf X)) → IsPermutation (p ∷ qs) (put_among p qs)
  put_among_same p [] = IsPermutation-refl (p ∷ [])
  put_among_same p (q ∷ qs) = by (nat_lt q.place p.place) (put_among_same p qs)
    where
      by : (b : Bool) → IsPermutation (p ∷ qs) (put_among p qs) → IsPermutation (p ∷ q ∷ qs) (if b then q ∷ put_among p qs else p ∷ q ∷ qs)
      by true rest = IsPermutation-trans (p ∷ q ∷ qs) (q ∷ p ∷ qs) (q ∷ put_among p qs) (IsPermutation-middle (p ∷ []) q qs) (IsPermutation-cons q (p ∷ qs) (put_among p qs) rest)
      by false rest = IsPermutation-refl (p ∷ q ∷ qs)

  by_place_same : (ps : List (PlacedOf X)) → IsPermutation ps (by_place ps)
  by_place_same [] = IsPermutation-refl []
  by_place_same (p ∷ ps) = IsPermutation-trans (p ∷ ps) (p ∷ by_place ps) (put_among p (by_place ps)) (IsPermutation-cons p ps (by_place ps) (by_place_same ps)) (put_among_same p (by_place ps))

  -- the items with places and those without are all items
  parts_same : (place : X → Option ℕ) (xs : List X) → IsPermutation xs (map item_of (placed_items place xs) ++ unplaced_items place xs)
  parts_same place [] = IsPermutation-refl []
  parts_same place (x ∷ xs) = by (place x) (parts_same place xs)
    where
      by : (o : Option ℕ) → IsPermutation xs (map item_of (placed_items place xs) ++ unplaced_items place xs)
          → IsPermutation (x ∷ xs) (map item_of (option_map_or (λ k. record { place = k; item = x } ∷ placed_items place xs) o (placed_items place xs)) ++ option_map_or (λ k. unplaced_items place xs) o (x ∷ unplaced_items place xs))
      by None rest =
          let items = map item_of (placed_items place xs) in
          let others = unplaced_items place xs in
          IsPermutation-trans (x ∷ xs) (x ∷ (items ++ others)) (items ++ x ∷ others) (IsPermutation-cons x xs (items ++ others) rest) (IsPermutation-sym (items ++ x ∷ others) (x ∷ (items ++ others)) (IsPermutation-middle items x others))
      by (Some k) rest = IsPermutation-cons x xs (map item_of (placed_items place xs) ++ unplaced_items place xs) rest

  -- items that are put in again are the same items
  pub put_again_same : (place : X → Option ℕ) (xs : List X) → IsPermutation xs (put_again place xs)
  put_again_same place xs =
      let placed = placed_items place xs in
      let others = unplaced_items place xs in
      IsPermutation-trans xs (map item_of placed ++ others) (put_again place xs) (parts_same place xs)
      (IsPermutation-trans (map item_of placed ++ others) (map item_of (by_place placed) ++ others) (put_again place xs)
      (IsPermutation-append_left others (map item_of placed) (map item_of (by_place placed)) (IsPermutation-map item_of placed (by_place placed) (by_place_same placed))) (put_all_same (by_place placed) others))

  -- the same behind those of the kernel
  pub put_again_behind_same : (is_kernel : X → Bool) (place : X → Option ℕ) (xs : List X) → IsPermutation xs (put_again_behind is_kernel place xs)
  put_again_behind_same is_kernel place xs =
      let of_user = filter (λ x. not (is_kernel x)) xs in
      IsPermutation-trans xs (filter is_kernel xs ++ of_user) (put_again_behind is_kernel place xs) (IsPermutation-filter_both is_kernel (λ x. not (is_kernel x)) (λ x. refl) xs)
      (IsPermutation-append_right (filter is_kernel xs) of_user (put_again place of_user) (put_again_same place of_user))

  -- those that are put in again are none of the kernel
  pub put_again_of_user : (is_kernel : X → Bool) (place : X → Option ℕ) (xs : List X) → AllByRecursion (λ x. is_kernel x ≡ false) (put_again place (filter (λ x. not (is_kernel x)) xs))
  put_again_of_user is_kernel place xs =
      let of_user = filter (λ x. not (is_kernel x)) xs in
      All-reordered (λ x. is_kernel x ≡ false) of_user (put_again place of_user) (put_again_same place of_user) (filter_fail is_kernel xs)

  -- the items of the kernel stay
  pub put_again_behind_kernel : (is_kernel : X → Bool) (place : X → Option ℕ) (xs : List X) → filter is_kernel (put_again_behind is_kernel place xs) ≡ filter is_kernel xs
  put_again_behind_kernel is_kernel place xs =
      let again = put_again place (filter (λ x. not (is_kernel x)) xs) in
      filter-append is_kernel (filter is_kernel xs) again
      ∙ (λ i. filter_all is_kernel (filter is_kernel xs) (filter_pass is_kernel xs) i ++ filter_none is_kernel again (put_again_of_user is_kernel place xs) i)
      ∙ append-nil (filter is_kernel xs)

  -- where no item has a place, none is taken out
  none_placed : (place : X → Option ℕ) (xs : List X) → AllByRecursion (λ x. place x ≡ None) xs → placed_items place xs ≡ []
  none_placed place [] all = refl
  none_placed place (x ∷ xs) all = ap (λ o. option_map_or (λ k. record { place = k; item = x } ∷ placed_items place xs) o (placed_items place xs)) all.0 ∙ none_placed place xs all.1

  all_unplaced : (place : X → Option ℕ) (xs : List X) → AllByRecursion (λ x. place x ≡ None) xs → unplaced_items place xs ≡ xs
  all_unplaced place [] all = refl
  all_unplaced place (x ∷ xs) all = ap (λ o. option_map_or (λ k. unplaced_items place xs) o (x ∷ unplaced_items place xs)) all.0 ∙ ap (λ ys. x ∷ ys) (all_unplaced place xs all.1)

  -- and all stay
  pub put_again_stays : (place : X → Option ℕ) (xs : List X) → AllByRecursion (λ x. place x ≡ None) xs → put_again place xs ≡ xs
  put_again_stays place xs all = (λ i. put_all (by_place (none_placed place xs all i)) (all_unplaced place xs all i))

  -- where nothing has a place, those of the kernel go before the others
  pub put_again_behind_none : (is_kernel : X → Bool) (xs : List X) → put_again_behind is_kernel (λ x. None) xs ≡ filter is_kernel xs ++ filter (λ x. not (is_kernel x)) xs
  put_again_behind_none is_kernel xs =
      let of_user = filter (λ x. not (is_kernel x)) xs in
      ap (λ (ys : List X). filter is_kernel xs ++ ys) (put_again_stays nowhere of_user (nowhere_none of_user))

  -- items of which those of the kernel stand in front are those of the kernel and the others
  pub kernel_in_front : (is_kernel : X → Bool) (ks us : List X) → AllByRecursion (λ x. is_kernel x ≡ true) ks → AllByRecursion (λ x. is_kernel x ≡ false) us → filter is_kernel (ks ++ us) ++ filter (λ x. not (is_kernel x)) (ks ++ us) ≡ ks ++ us
  kernel_in_front is_kernel ks us mine others = (λ i. first i ++ second i)
    where
      first : filter is_kernel (ks ++ us) ≡ ks
      first =
          filter-append is_kernel ks us ∙ (λ i. filter_all is_kernel ks mine i ++ filter_none is_kernel us others i) ∙ append-nil ks

      second : filter (λ x. not (is_kernel x)) (ks ++ us) ≡ us
      second = filter-append (λ x. not (is_kernel x)) ks us ∙ (λ i. filter_not_all is_kernel ks mine i ++ filter_not_none is_kernel us others i)

  -- where nothing has a place and those of the kernel stand in front, all stay
  pub put_again_behind_stays : (is_kernel : X → Bool) (xs ks us : List X) → xs ≡ ks ++ us → AllByRecursion (λ x. is_kernel x ≡ true) ks → AllByRecursion (λ x. is_kernel x ≡ false) us → put_again_behind is_kernel (λ x. None) xs ≡ xs
  put_again_behind_stays is_kernel xs ks us whole mine others =
      put_again_behind_none is_kernel xs
      ∙ ap (λ (ys : List X). filter is_kernel ys ++ filter (λ x. not (is_kernel x)) ys) whole
      ∙ kernel_in_front is_kernel ks us mine others
      ∙ sym whole
