-- The classes below a class, by position.
use Rattle.std.specs.Prelude.{◌≡◌, ℕ, zero, suc, ◌∷◌, ◌++◌, [], List, length, slice_get, nat_eq, Bool, true, false, if◌then◌else◌, Option, Some, None}
use Rattle.std.specs.Option.{option_map_or}
use Rattle.std.specs.HashMap.{get}
use Rattle.draft_orders.specs.declared.chains.Chains.{Chains}

-- whether a superclass is that of a name
abbrev pub is_named : ℕ → Option ℕ → Bool
is_named n above = option_map_or (λ a. nat_eq a n) above false

-- whether the class at a position is below that of a name
abbrev pub is_below : List (Option ℕ) → ℕ → ℕ → Bool
is_below above n k = option_map_or (is_named n) (slice_get above k) false

-- the last position before another that passes
abbrev pub last_before : (ℕ → Bool) → ℕ → Option ℕ
last_before p zero = None
last_before p (suc k) = if p k then Some k else last_before p k

-- the last class below each name is noted, and each position is linked to that of the last class before it that has its superclass
pub record IsChained (c : Chains) : Type 0 where
  pub heads : (n : ℕ) → get nat_eq c.last n ≡ last_before (is_below c.above.items n) (length c.above.items)
  pub links : (n k : ℕ) → is_below c.above.items n k ≡ true → slice_get c.before.items k ≡ Some (last_before (is_below c.above.items n) k)
  pub all : length c.before.items ≡ length c.above.items

-- one position more is linked
pub record IsLinked (place : ℕ) (superclass : Option ℕ) (old new : Chains) : Type 0 where
  pub links : new.before.items ≡ old.before.items ++ option_map_or (λ n. get nat_eq old.last n) superclass None ∷ []
  pub heads : (n : ℕ) → get nat_eq new.last n ≡ (if is_named n superclass then Some place else get nat_eq old.last n)
