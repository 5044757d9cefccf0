-- An image is orderly whatever is said of its heads.
use Rattle.std.proofs.Common.{ℕ}
use Rattle.class_table.specs.Slots.{Slots}
use Rattle.class_table.specs.Valid.{IsOrderly}

pub orderly_heads : (s : Slots) (n : ℕ) → IsOrderly s → IsOrderly (record s { heads = n })
orderly_heads s n o = record {
  names_distinct = o.names_distinct;
  names_known = record { classes = o.names_known.classes; methods = o.names_known.methods; doits = o.names_known.doits };
  class_order = o.class_order;
  method_order = o.method_order;
  class_names_distinct = o.class_names_distinct;
  superclasses_live = o.superclasses_live;
  method_classes_live = o.method_classes_live;
}
