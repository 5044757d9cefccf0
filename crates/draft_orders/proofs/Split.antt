-- Items in parts, and items that are put in again when they are seen otherwise.
use Rattle.std.proofs.Common.{◌≡◌, ℕ, zero, suc, ◌-◌, Bool, true, false, not, cond, List, [], ◌∷◌, ◌++◌, map, filter, take, drop, Option, Some, None, Result, Ok, Err, nat_lt, refl, sym, ap, ◌∙◌, append_assoc}
use Rattle.std.specs.Prelude.{IfOk}
use Rattle.std.specs.Option.{option_map_or}
use Rattle.std.proofs.lemmas.List.{append-nil, map-append}
use Rattle.file_model.specs.Places.{PlacedOf, placed_items, unplaced_items, put_among, by_place, put_at, put_all, put_again, put_again_behind}
use Rattle.draft_orders.specs.declared.parts.Parts.{Parts}
use Rattle.draft_orders.specs.Parts.{IsAdded, IsSplit}

-- the parts so far with those of the items that are left are those of all
pub record Splits {T : Type 0} (is_kernel : T → Bool) (place : T → Option ℕ) (all left : List T) (parts : Parts T) : Type 0 where
  pub kernel : parts.kernel.items ++ filter is_kernel left ≡ filter is_kernel all
  pub placed : parts.placed.items ++ placed_items place (filter (λ x. not (is_kernel x)) left) ≡ placed_items place (filter (λ x. not (is_kernel x)) all)
  pub rest : parts.rest.items ++ unplaced_items place (filter (λ x. not (is_kernel x)) left) ≡ unplaced_items place (filter (λ x. not (is_kernel x)) all)

-- one item more
pub split_more : {T : Type 0} (is_kernel : T → Bool) (place : T → Option ℕ) (all left : List T) (x : T) (before after : Parts T)
    → Splits is_kernel place all (x ∷ left) before → IsAdded before (is_kernel x) (place x) x after → Splits is_kernel place all left after
split_more {T} is_kernel place all left x before after s a = record {
  kernel = ap (λ (r : List T). r ++ filter is_kernel left) a.kernel ∙ append_assoc before.kernel.items (filter (λ _. is_kernel x) (x ∷ [])) (filter is_kernel left) ∙ ap (λ (r : List T). before.kernel.items ++ r) (of_kernel (is_kernel x)) ∙ s.kernel;
  placed = ap (λ (r : List (PlacedOf T)). r ++ placed_items place (filter user left)) a.placed ∙ append_assoc before.placed.items (placed_items (λ _. place x) (filter (λ _. not (is_kernel x)) (x ∷ []))) (placed_items place (filter user left))
      ∙ ap (λ (r : List (PlacedOf T)). before.placed.items ++ r) (of_placed (not (is_kernel x)) (place x) refl) ∙ s.placed;
  rest = ap (λ (r : List T). r ++ unplaced_items place (filter user left)) a.rest ∙ append_assoc before.rest.items (unplaced_items (λ _. place x) (filter (λ _. not (is_kernel x)) (x ∷ []))) (unplaced_items place (filter user left))
      ∙ ap (λ (r : List T). before.rest.items ++ r) (of_rest (not (is_kernel x)) (place x) refl) ∙ s.rest;
}
  where
    user : T → Bool
    user y = not (is_kernel y)

    of_kernel : (b : Bool) → filter (λ _. b) (x ∷ []) ++ filter is_kernel left ≡ cond b (x ∷ filter is_kernel left) (filter is_kernel left)
    of_kernel true = refl
    of_kernel false = refl

    of_placed : (b : Bool) (o : Option ℕ) → place x ≡ o → placed_items (λ _. o) (filter (λ _. b) (x ∷ [])) ++ placed_items place (filter (λ y. not (is_kernel y)) left) ≡ placed_items place (cond b (x ∷ filter (λ y. not (is_kernel y)) left) (filter (λ y. not (is_kernel y)) left))
    of_placed false o e = refl
    of_placed true None e = ap (λ (p : Option ℕ). option_map_or (λ k. record { place = k; item = x } ∷ placed_items place (filter (λ y. not (is_kernel y)) left)) p (placed_items place (filter (λ y. not (is_kernel y)) left))) (sym e)
    of_placed true (Some k) e = ap (λ (p : Option ℕ). option_map_or (λ k. record { place = k; item = x } ∷ placed_items place (filter (λ y. not (is_kernel y)) left)) p (placed_items place (filter (λ y. not (is_kernel y)) left))) (sym e)

    of_rest : (b : Bool) (o : Option ℕ) → place x ≡ o → unplaced_items (λ _. o) (filter (λ _. b) (x ∷ [])) ++ unplaced_items place (filter (λ y. not (is_kernel y)) left) ≡ unplaced_items place (cond b (x ∷ filter (λ y. not (is_kernel y)) left) (filter (λ y. not (is_kernel y)) left))
    of_rest false o e = refl
    of_rest true None e = ap (λ (p : Option ℕ). option_map_or (λ k. unplaced_items place (filter (λ y. not (is_kernel y)) left)) p (x ∷ unplaced_items place (filter (λ y. not (is_kernel y)) left))) (sym e)
    of_rest true (Some k) e = ap (λ (p : Option ℕ). option_map_or (λ k. unplaced_items place (filter (λ y. not (is_kernel y)) left)) p (x ∷ unplaced_items place (filter (λ y. not (is_kernel y)) left))) (sym e)

-- no item is left
pub split_all : {T : Type 0} (is_kernel : T → Bool) (place : T → Option ℕ) (all : List T) (parts : Parts T) → Splits is_kernel place all [] parts → IsSplit is_kernel place all parts
split_all is_kernel place all parts s = record {
  kernel = sym (append-nil parts.kernel.items) ∙ s.kernel;
  placed = sym (append-nil parts.placed.items) ∙ s.placed;
  rest = sym (append-nil parts.rest.items) ∙ s.rest;
}

-- what holds of a value holds of what it implies
pub if_ok_more : {X E : Type 0} (r : Result X E) (P Q : X → Type 0) → ((x : X) → P x → Q x) → IfOk r P → IfOk r Q
if_ok_more (Ok x) P Q f h = f x h
if_ok_more (Err e) P Q f h = h

-- the parts are joined
pub joined_is : {T : Type 0} (is_kernel : T → Bool) (place : T → Option ℕ) (all : List T) (parts : Parts T) → IsSplit is_kernel place all parts
    → parts.kernel.items ++ put_all (by_place parts.placed.items) parts.rest.items ≡ put_again_behind is_kernel place all
joined_is is_kernel place all parts s = λ i. s.kernel i ++ put_all (by_place (s.placed i)) (s.rest i)

-- an item seen otherwise, with its place
abbrev pub seen : {X Y : Type 0} → (X → Y) → PlacedOf X → PlacedOf Y
seen f p = record { place = p.place; item = f p.item }

filter_seen : {X Y : Type 0} (f : X → Y) (test : Y → Bool) (xs : List X) → map f (filter (λ x. test (f x)) xs) ≡ filter test (map f xs)
filter_seen f test [] = refl
filter_seen {X} {Y} f test (x ∷ xs) = by (test (f x)) ∙ ap (λ (r : List Y). cond (test (f x)) (f x ∷ r) r) (filter_seen f test xs)
  where
    by : (b : Bool) → map f (cond b (x ∷ filter (λ y. test (f y)) xs) (filter (λ y. test (f y)) xs)) ≡ cond b (f x ∷ map f (filter (λ y. test (f y)) xs)) (map f (filter (λ y. test (f y)) xs))
    by true = refl
    by false = refl

placed_seen : {X Y : Type 0} (f : X → Y) (place : Y → Option ℕ) (xs : List X) → map (seen f) (placed_items (λ x. place (f x)) xs) ≡ placed_items place (map f xs)
placed_seen f place [] = refl
placed_seen {X} {Y} f place (x ∷ xs) = by (place (f x)) (placed_seen f place xs)
  where
    by : (o : Option ℕ) → map (seen f) (placed_items (λ y. place (f y)) xs) ≡ placed_items place (map f xs) → map (seen f) (option_map_or (λ k. record { place = k; item = x } ∷ placed_items (λ y. place (f y)) xs) o (placed_items (λ y. place (f y)) xs)) ≡ option_map_or (λ k. record { place = k; item = f x } ∷ placed_items place (map f xs)) o (placed_items place (map f xs))
    by None more = more
    by (Some k) more = ap (λ (r : List (PlacedOf Y)). record { place = k; item = f x } ∷ r) more

unplaced_seen : {X Y : Type 0} (f : X → Y) (place : Y → Option ℕ) (xs : List X) → map f (unplaced_items (λ x. place (f x)) xs) ≡ unplaced_items place (map f xs)
unplaced_seen f place [] = refl
unplaced_seen {X} {Y} f place (x ∷ xs) = by (place (f x)) (unplaced_seen f place xs)
  where
    by : (o : Option ℕ) → map f (unplaced_items (λ y. place (f y)) xs) ≡ unplaced_items place (map f xs) → map f (option_map_or (λ k. unplaced_items (λ y. place (f y)) xs) o (x ∷ unplaced_items (λ y. place (f y)) xs)) ≡ option_map_or (λ k. unplaced_items place (map f xs)) o (f x ∷ unplaced_items place (map f xs))
    by None more = ap (λ (r : List Y). f x ∷ r) more
    by (Some k) more = more

among_seen : {X Y : Type 0} (f : X → Y) (p : PlacedOf X) (qs : List (PlacedOf X)) → map (seen f) (put_among p qs) ≡ put_among (seen f p) (map (seen f) qs)
among_seen f p [] = refl
among_seen {X} {Y} f p (q ∷ qs) = by (nat_lt q.place p.place) (among_seen f p qs)
  where
    by : (b : Bool) → map (seen f) (put_among p qs) ≡ put_among (seen f p) (map (seen f) qs) → map (seen f) (cond b (q ∷ put_among p qs) (p ∷ q ∷ qs)) ≡ cond b (seen f q ∷ put_among (seen f p) (map (seen f) qs)) (seen f p ∷ seen f q ∷ map (seen f) qs)
    by true more = ap (λ (r : List (PlacedOf Y)). seen f q ∷ r) more
    by false more = refl

by_place_seen : {X Y : Type 0} (f : X → Y) (ps : List (PlacedOf X)) → map (seen f) (by_place ps) ≡ by_place (map (seen f) ps)
by_place_seen f [] = refl
by_place_seen f (p ∷ ps) = among_seen f p (by_place ps) ∙ ap (put_among (seen f p)) (by_place_seen f ps)

take_seen : {X Y : Type 0} (f : X → Y) (n : ℕ) (xs : List X) → map f (take n xs) ≡ take n (map f xs)
take_seen f zero xs = refl
take_seen f (suc n) [] = refl
take_seen f (suc n) (x ∷ xs) = ap (λ r. f x ∷ r) (take_seen f n xs)

drop_seen : {X Y : Type 0} (f : X → Y) (n : ℕ) (xs : List X) → map f (drop n xs) ≡ drop n (map f xs)
drop_seen f zero xs = refl
drop_seen f (suc n) [] = refl
drop_seen f (suc n) (x ∷ xs) = drop_seen f n xs

put_seen : {X Y : Type 0} (f : X → Y) (p : PlacedOf X) (xs : List X) → map f (put_at p xs) ≡ put_at (seen f p) (map f xs)
put_seen f p xs = map-append f (take (p.place - 1) xs) (p.item ∷ drop (p.place - 1) xs) ∙ (λ i. take_seen f (p.place - 1) xs i ++ f p.item ∷ drop_seen f (p.place - 1) xs i)

put_all_seen : {X Y : Type 0} (f : X → Y) (ps : List (PlacedOf X)) (xs : List X) → map f (put_all ps xs) ≡ put_all (map (seen f) ps) (map f xs)
put_all_seen f [] xs = refl
put_all_seen f (p ∷ ps) xs = put_all_seen f ps (put_at p xs) ∙ ap (put_all (map (seen f) ps)) (put_seen f p xs)

-- items that are put in again, seen otherwise
pub put_again_seen : {X Y : Type 0} (f : X → Y) (is_kernel : Y → Bool) (place : Y → Option ℕ) (xs : List X)
    → map f (put_again_behind (λ x. is_kernel (f x)) (λ x. place (f x)) xs) ≡ put_again_behind is_kernel place (map f xs)
put_again_seen {X} {Y} f is_kernel place xs =
    map-append f (filter (λ x. is_kernel (f x)) xs) (put_again (λ x. place (f x)) users)
    ∙ (λ i. filter_seen f is_kernel xs i ++ put_all_seen f (by_place (placed_items (λ x. place (f x)) users)) (unplaced_items (λ x. place (f x)) users) i)
    ∙ ap (λ (ps : List (PlacedOf Y)). filter is_kernel (map f xs) ++ put_all ps (map f (unplaced_items (λ x. place (f x)) users)))
    (by_place_seen f (placed_items (λ x. place (f x)) users) ∙ ap by_place (placed_seen f place users))
    ∙ ap (λ (r : List Y). filter is_kernel (map f xs) ++ put_all (by_place (placed_items place (map f users))) r) (unplaced_seen f place users)
    ∙ ap (λ (r : List Y). filter is_kernel (map f xs) ++ put_again place r) (filter_seen f (λ y. not (is_kernel y)) xs)
  where
    users : List X
    users = filter (λ x. not (is_kernel (f x))) xs
