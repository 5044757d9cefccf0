-- Classes of which some are taken.
use Rattle.std.specs.Prelude.{◌≡◌, ℕ, suc, List, length, slice_get, nat_eq, Bool, true, false, is_some, Option, Some}
use Rattle.std.specs.List.{filter_map}
use Rattle.std.specs.Option.{option_map_or}
use Rattle.image_model.specs.Image.{ClassOf}
use Rattle.file_model.specs.Hierarchy.{can_follow, settle_behind}
use Rattle.draft_orders.specs.declared.settling.Settling.{Settling}
use Rattle.draft_orders.specs.Chains.{IsChained}
use Rattle.draft_orders.specs.Ready.{stands}

-- whether the class at a position is not taken yet
abbrev pub is_there : List (Option (ClassOf ℕ)) → ℕ → Bool
is_there slots k = option_map_or (λ (o : Option (ClassOf ℕ)). is_some o) (slice_get slots k) false

-- the classes that are not taken yet
abbrev pub left : List (Option (ClassOf ℕ)) → List (ClassOf ℕ)
left slots = filter_map (λ (o : Option (ClassOf ℕ)). o) slots

-- whether there is a class in a slot, and it can be taken
abbrev pub fits : List (ClassOf ℕ) → Option (ClassOf ℕ) → Bool
fits taken slot = option_map_or (can_follow nat_eq taken) slot false

-- the same of the slot at a position
abbrev pub fits_at : List (ClassOf ℕ) → List (Option (ClassOf ℕ)) → ℕ → Bool
fits_at taken slots k = option_map_or (fits taken) (slice_get slots k) false

-- the classes below each class are known, each class that is not taken has the superclass that is known of its position, and those that can be taken are known
pub record AreReady (s : Settling) : Type 0 where
  pub chains : IsChained s.chains
  pub above : (k : ℕ) (c : ClassOf ℕ) → slice_get s.slots.items k ≡ Some (Some c) → slice_get s.chains.above.items k ≡ Some c.superclass
  pub all : length s.chains.above.items ≡ length s.slots.items
  pub ready : (k : ℕ) → stands s.ready k ≡ fits_at s.taken.items s.slots.items k

-- one more is taken, or no more can be
abbrev pub IsStep : Bool → Settling → Settling → Type 0
IsStep false before after = ((n : ℕ) → settle_behind nat_eq n before.taken.items (left before.slots.items) ≡ before.taken.items) × (after.taken.items ≡ before.taken.items)
IsStep true before after =
    ((n : ℕ) → settle_behind nat_eq (suc n) before.taken.items (left before.slots.items) ≡ settle_behind nat_eq n after.taken.items (left after.slots.items)) × AreReady after
