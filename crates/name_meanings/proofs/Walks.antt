-- The walk up the chain of a class that looks for a variable.
use Rattle.std.proofs.Common.{◌≡◌, ℕ, cond, List, length, Option, Some, None, slice_get, sym, ap, ◌∙◌}
use Rattle.std.specs.Prelude.{nat_eq}
use Rattle.std.specs.List.{filter_map}
use Rattle.image_model.specs.Image.{ClassOf}
use Rattle.image_model.specs.Upwards.{upwards}
use Rattle.image_model.specs.Chain.{chain}
use Rattle.class_table.specs.Slots.{Slots}
use Rattle.class_table.specs.View.{class_name, class_at, live_at, number_image}
use Rattle.class_table.specs.Valid.{IsLive, IsOrderly}
use Rattle.class_table.specs.Finding.{above}
use Rattle.class_table.proofs.Live.{there}
use Rattle.class_table.proofs.Found.{chain-live}

-- the classes from a slot upwards, at most so many
abbrev pub classes_from : Slots → ℕ → Option ℕ → List (ClassOf ℕ)
classes_from s left o = filter_map (class_at s) (upwards (above s.classes s.class_order) left o)

-- a live slot holds a class
pub class-there : (s : Slots) → IsOrderly s → (k : ℕ) → IsLive s.class_order k → live_at s.classes s.class_order k ≡ None → ⊥
class-there s orderly k l e =
    let c = there s.classes k (orderly.class_order.below k l) in
    let bad : Some c.0 ≡ None = sym c.1 ∙ sym (ap (λ b. cond b (slice_get s.classes k) None) l) ∙ e in cc

-- the chain of a live class
pub chain-classes : (s : Slots) → IsOrderly s → (k : ℕ) → IsLive s.class_order k → chain nat_eq (number_image s).classes (class_name s.classes k) ≡ classes_from s (length s.class_order) (Some k)
chain-classes s orderly k l =
    chain-live s orderly k l ∙ ap (λ b. filter_map (class_at s) (upwards (above s.classes s.class_order) (length s.class_order) (cond b (Some k) None))) l
