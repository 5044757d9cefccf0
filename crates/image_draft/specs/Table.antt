-- The table by which classes are found.
use Rattle.std.specs.Prelude.{◌≡◌, ℕ, List, position, cond, is_some, unwrap_or, slice_get, Bool, true, false, Option, None, Some, nat_eq, nat_lt}
use Rattle.image_model.specs.Image.{ClassOf}

-- the place that stands at the number of a name; past the end of the list no name has a place
abbrev pub place_at : List (Option ℕ) → ℕ → Option ℕ
place_at table n = unwrap_or (slice_get table n) None

-- the place of the first class of a name
abbrev pub place_in : List (ClassOf ℕ) → ℕ → Option ℕ
place_in cs n = position (λ (c : ClassOf ℕ). nat_eq n c.name) cs

-- the table gives the place of the first class of each name
abbrev pub IsPlaceTable : List (Option ℕ) → List (ClassOf ℕ) → Type 0
IsPlaceTable table cs = (n : ℕ) → place_at table n ≡ place_in cs n

-- the table has one name more, at a place, unless it had it
abbrev pub IsNoted : List (Option ℕ) → List (Option ℕ) → ℕ → ℕ → Type 0
IsNoted before after name place =
    (n : ℕ) → place_at after n ≡ cond (is_some (place_at before name)) (place_at before n) (cond (nat_eq name n) (Some place) (place_at before n))

-- a place, if it is before another
abbrev pub place_before : ℕ → Option ℕ → Option ℕ
place_before k None = None
place_before k (Some j) = cond (nat_lt j k) (Some j) None

-- whether a place stands before another, where all that have a place stand before what has none
abbrev pub stands_first : Option ℕ → Option ℕ → Bool
stands_first None other = false
stands_first (Some j) None = true
stands_first (Some j) (Some k) = nat_lt j k
