-- The parts in which items are put in again.
use Rattle.std.specs.Prelude.{◌≡◌, ℕ, List, [], ◌∷◌, ◌++◌, filter, Bool, not, Option}
use Rattle.file_model.specs.Places.{placed_items, unplaced_items}
use Rattle.draft_orders.specs.declared.parts.Parts.{Parts}

-- no part has an item
pub record HasNothing {T : Type 0} (parts : Parts T) : Type 0 where
  pub kernel : parts.kernel.items ≡ []
  pub placed : parts.placed.items ≡ []
  pub rest : parts.rest.items ≡ []

-- one part has an item more, at its end: that of the kernel, that of the items with a place, or that of those without one
pub record IsAdded {T : Type 0} (before : Parts T) (is_kernel : Bool) (place : Option ℕ) (item : T) (after : Parts T) : Type 0 where
  pub kernel : after.kernel.items ≡ before.kernel.items ++ filter (λ _. is_kernel) (item ∷ [])
  pub placed : after.placed.items ≡ before.placed.items ++ placed_items (λ _. place) (filter (λ _. not is_kernel) (item ∷ []))
  pub rest : after.rest.items ≡ before.rest.items ++ unplaced_items (λ _. place) (filter (λ _. not is_kernel) (item ∷ []))

-- the parts of items, where it is known of each whether it is one of the kernel, and its place
pub record IsSplit {T : Type 0} (is_kernel : T → Bool) (place : T → Option ℕ) (items : List T) (parts : Parts T) : Type 0 where
  pub kernel : parts.kernel.items ≡ filter is_kernel items
  pub placed : parts.placed.items ≡ placed_items place (filter (λ x. not (is_kernel x)) items)
  pub rest : parts.rest.items ≡ unplaced_items place (filter (λ x. not (is_kernel x)) items)
