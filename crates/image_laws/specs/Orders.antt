-- What is known of the orders in the slots of each image.
use Rattle.std.specs.Prelude.{length}
use Rattle.class_table.specs.Order.{IsOrderOf}
use Rattle.class_table.specs.Slots.{Slots}

-- no slot stands twice in an order, and each slot of an order is there
pub record HasOrders (s : Slots) : Type 0 where
  pub classes : IsOrderOf (record { items = s.class_order; slots = length s.classes })
  pub methods : IsOrderOf (record { items = s.method_order; slots = length s.methods })
