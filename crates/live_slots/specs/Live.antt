-- Slots that are all live.
use Rattle.std.specs.Prelude.{ℕ, ◌<◌, length}
use Rattle.class_table.specs.Slots.{Slots}
use Rattle.class_table.specs.Valid.{IsLive}

-- each slot is live, as in an image that was read
pub record AllLive (s : Slots) : Type 0 where
  pub classes : (k : ℕ) → k < length s.classes → IsLive s.class_order k
  pub methods : (k : ℕ) → k < length s.methods → IsLive s.method_order k
