-- Items that are put in again at their places, mapped, and what holds of each of them.
use Rattle.std.proofs.Common.{◌≡◌, ℕ, zero, suc, Bool, true, false, not, cond, List, [], ◌∷◌, ◌++◌, map, filter, Option, Some, None, refl, sym, ap, ◌∙◌}
use Rattle.std.specs.Prelude.{◌-◌, nat_lt, take, drop}
use Rattle.std.specs.List.{AllByRecursion}
use Rattle.std.specs.Option.{option_map_or}
use Rattle.std.proofs.lemmas.List.{map-append, take-map, drop-map}
use Rattle.image_model.proofs.Lists.{all-implies}
use Rattle.file_model.specs.Places.{PlacedOf, placed_items, unplaced_items, put_among, by_place, put_at, put_all, put_again, put_again_behind}
use Rattle.file_numbers.proofs.Mapped.{filter-map, all-append, all-filter}

-- an item with its place, mapped
abbrev map_placed : {X Y : Type 0} → (X → Y) → PlacedOf X → PlacedOf Y
map_placed g p = record { place = p.place; item = g p.item }

module _ {X Y : Type 0} (g : X → Y) where
  put_among-map : (p : PlacedOf X) (ps : List (PlacedOf X)) → put_among (map_placed g p) (map (map_placed g) ps) ≡ map (map_placed g) (put_among p ps)
  put_among-map p [] = refl
  put_among-map p (q ∷ qs) = ap (λ (rs : List (PlacedOf Y)). cond (nat_lt q.place p.place) (map_placed g q ∷ rs) (map_placed g p ∷ map_placed g q ∷ map (map_placed g) qs)) (put_among-map p qs) ∙ by (nat_lt q.place p.place)
    where
      by : (b : Bool) → cond b (map_placed g q ∷ map (map_placed g) (put_among p qs)) (map_placed g p ∷ map_placed g q ∷ map (map_placed g) qs) ≡ map (map_placed g) (cond b (q ∷ put_among p qs) (p ∷ q ∷ qs))
      by true = refl
      by false = refl

  by_place-map : (ps : List (PlacedOf X)) → by_place (map (map_placed g) ps) ≡ map (map_placed g) (by_place ps)
  by_place-map [] = refl
  by_place-map (p ∷ ps) = ap (put_among (map_placed g p)) (by_place-map ps) ∙ put_among-map p (by_place ps)

  put_at-map : (p : PlacedOf X) (xs : List X) → put_at (map_placed g p) (map g xs) ≡ map g (put_at p xs)
  put_at-map p xs = (λ i. take-map g (p.place - 1) xs i ++ g p.item ∷ drop-map g (p.place - 1) xs i) ∙ sym (map-append g (take (p.place - 1) xs) (p.item ∷ drop (p.place - 1) xs))

  put_all-map : (ps : List (PlacedOf X)) (xs : List X) → put_all (map (map_placed g) ps) (map g xs) ≡ map g (put_all ps xs)
  put_all-map [] xs = refl
  put_all-map (p ∷ ps) xs = ap (put_all (map (map_placed g) ps)) (put_at-map p xs) ∙ put_all-map ps (put_at p xs)

  module _ (place : X → Option ℕ) (mapped : Y → Option ℕ) where
    placed_items-map : (xs : List X) → AllByRecursion (λ x. mapped (g x) ≡ place x) xs → placed_items mapped (map g xs) ≡ map (map_placed g) (placed_items place xs)
    placed_items-map [] a = refl
    placed_items-map (x ∷ xs) a = (λ i. option_map_or (λ (k : ℕ). record { place = k; item = g x } ∷ placed_items-map xs a.1 i) (a.0 i) (placed_items-map xs a.1 i)) ∙ by (place x)
      where
        by : (o : Option ℕ)
            → ◌≡◌ {A = List (PlacedOf Y)} (option_map_or (λ (k : ℕ). record { place = k; item = g x } ∷ map (map_placed g) (placed_items place xs)) o (map (map_placed g) (placed_items place xs)))
            (map (map_placed g) (option_map_or (λ (k : ℕ). record { place = k; item = x } ∷ placed_items place xs) o (placed_items place xs)))
        by None = refl
        by (Some k) = refl

    unplaced_items-map : (xs : List X) → AllByRecursion (λ x. mapped (g x) ≡ place x) xs → unplaced_items mapped (map g xs) ≡ map g (unplaced_items place xs)
    unplaced_items-map [] a = refl
    unplaced_items-map (x ∷ xs) a = (λ i. option_map_or (λ (k : ℕ). unplaced_items-map xs a.1 i) (a.0 i) (g x ∷ unplaced_items-map xs a.1 i)) ∙ by (place x)
      where
        by : (o : Option ℕ) → option_map_or (λ (k : ℕ). map g (unplaced_items place xs)) o (g x ∷ map g (unplaced_items place xs)) ≡ map g (option_map_or (λ (k : ℕ). unplaced_items place xs) o (x ∷ unplaced_items place xs))
        by None = refl
        by (Some k) = refl

    put_again-map : (xs : List X) → AllByRecursion (λ x. mapped (g x) ≡ place x) xs → put_again mapped (map g xs) ≡ map g (put_again place xs)
    put_again-map xs a =
        (λ i. put_all ((ap by_place (placed_items-map xs a) ∙ by_place-map (placed_items place xs)) i) (unplaced_items-map xs a i))
        ∙ put_all-map (by_place (placed_items place xs)) (unplaced_items place xs)

    -- items that are put in again behind those of the kernel, mapped
    pub put_again_behind-map : (is_kernel : X → Bool) (is_kernel_mapped : Y → Bool) (xs : List X) → ((x : X) → is_kernel_mapped (g x) ≡ is_kernel x) → AllByRecursion (λ x. mapped (g x) ≡ place x) xs
        → put_again_behind is_kernel_mapped mapped (map g xs) ≡ map g (put_again_behind is_kernel place xs)
    put_again_behind-map is_kernel is_kernel_mapped xs same a =
        (λ i. filter-map g is_kernel is_kernel_mapped xs (all-implies _ _ (λ x t. same x) xs a) i
        ++ (ap (put_again mapped) (filter-map g (λ x. not (is_kernel x)) (λ y. not (is_kernel_mapped y)) xs (all-implies _ _ (λ x t. ap not (same x)) xs a))
        ∙ put_again-map (filter (λ x. not (is_kernel x)) xs) (all-filter (λ x. mapped (g x) ≡ place x) (λ x. not (is_kernel x)) xs a)) i)
        ∙ sym (map-append g (filter is_kernel xs) (put_again place (filter (λ x. not (is_kernel x)) xs)))

module _ {X : Type 0} (P : X → Type 0) where
  all-take : (n : ℕ) (xs : List X) → AllByRecursion P xs → AllByRecursion P (take n xs)
  all-take zero xs a = tt
  all-take (suc n) [] a = tt
  all-take (suc n) (x ∷ xs) a = (a.0, all-take n xs a.1)

  all-drop : (n : ℕ) (xs : List X) → AllByRecursion P xs → AllByRecursion P (drop n xs)
  all-drop zero xs a = a
  all-drop (suc n) [] a = tt
  all-drop (suc n) (x ∷ xs) a = all-drop n xs a.1

  all-put_among : (p : PlacedOf X) (ps : List (PlacedOf X)) → P p.item → AllByRecursion (λ (q : PlacedOf X). P q.item) ps → AllByRecursion (λ (q : PlacedOf X). P q.item) (put_among p ps)
  all-put_among p [] a b = (a, tt)
  all-put_among p (q ∷ qs) a b = by (nat_lt q.place p.place) (all-put_among p qs a b.1)
    where
      by : (c : Bool) → AllByRecursion (λ (r : PlacedOf X). P r.item) (put_among p qs) → AllByRecursion (λ (r : PlacedOf X). P r.item) (cond c (q ∷ put_among p qs) (p ∷ q ∷ qs))
      by true rest = (b.0, rest)
      by false rest = (a, b)

  all-by_place : (ps : List (PlacedOf X)) → AllByRecursion (λ (q : PlacedOf X). P q.item) ps → AllByRecursion (λ (q : PlacedOf X). P q.item) (by_place ps)
  all-by_place [] a = tt
  all-by_place (p ∷ ps) a = all-put_among p (by_place ps) a.0 (all-by_place ps a.1)

  all-put_all : (ps : List (PlacedOf X)) (xs : List X) → AllByRecursion (λ (q : PlacedOf X). P q.item) ps → AllByRecursion P xs → AllByRecursion P (put_all ps xs)
  all-put_all [] xs a b = b
  all-put_all (p ∷ ps) xs a b = all-put_all ps (put_at p xs) a.1 (all-append P (take (p.place - 1) xs) (p.item ∷ drop (p.place - 1) xs) (all-take (p.place - 1) xs b) (a.0, all-drop (p.place - 1) xs b))

  all-placed_items : (place : X → Option ℕ) (xs : List X) → AllByRecursion P xs → AllByRecursion (λ (q : PlacedOf X). P q.item) (placed_items place xs)
  all-placed_items place [] a = tt
  all-placed_items place (x ∷ xs) a = by (place x) (all-placed_items place xs a.1)
    where
      by : (o : Option ℕ) → AllByRecursion (λ (q : PlacedOf X). P q.item) (placed_items place xs)
          → AllByRecursion (λ (q : PlacedOf X). P q.item) (option_map_or (λ (k : ℕ). record { place = k; item = x } ∷ placed_items place xs) o (placed_items place xs))
      by None rest = rest
      by (Some k) rest = (a.0, rest)

  all-unplaced_items : (place : X → Option ℕ) (xs : List X) → AllByRecursion P xs → AllByRecursion P (unplaced_items place xs)
  all-unplaced_items place [] a = tt
  all-unplaced_items place (x ∷ xs) a = by (place x) (all-unplaced_items place xs a.1)
    where
      by : (o : Option ℕ) → AllByRecursion P (unplaced_items place xs) → AllByRecursion P (option_map_or (λ (k : ℕ). unplaced_items place xs) o (x ∷ unplaced_items place xs))
      by None rest = (a.0, rest)
      by (Some k) rest = rest

  all-put_again : (place : X → Option ℕ) (xs : List X) → AllByRecursion P xs → AllByRecursion P (put_again place xs)
  all-put_again place xs a = all-put_all (by_place (placed_items place xs)) (unplaced_items place xs) (all-by_place (placed_items place xs) (all-placed_items place xs a)) (all-unplaced_items place xs a)

  -- a fact of each item that is put in again behind those of the kernel
  pub all-put_again_behind : (is_kernel : X → Bool) (place : X → Option ℕ) (xs : List X) → AllByRecursion P xs → AllByRecursion P (put_again_behind is_kernel place xs)
  all-put_again_behind is_kernel place xs a =
      all-append P (filter is_kernel xs) (put_again place (filter (λ x. not (is_kernel x)) xs)) (all-filter P is_kernel xs a)
      (all-put_again place (filter (λ x. not (is_kernel x)) xs) (all-filter P (λ x. not (is_kernel x)) xs a))
