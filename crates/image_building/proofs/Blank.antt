-- An image of nothing but names.
use Rattle.std.proofs.Common.{ℕ, List, []}
use Rattle.std.proofs.lemmas.Bool.{false≢true}
use Rattle.rb_base.specs.Names.{HasNoTwice}
use Rattle.class_table.specs.Order.{IsOrderOf}
use Rattle.class_table.specs.Slots.{Slots}
use Rattle.class_table.specs.Valid.{IsOrderly}

-- the slots of such an image
abbrev pub only_names : List (List ℕ) → Slots
only_names names = record { names = names; classes = []; class_order = []; methods = []; method_order = []; doits = []; heads = 0 }

-- no slots have an order
no_order : IsOrderOf (record { items = []; slots = 0 })
no_order = record { distinct = tt; below = λ k live. absurd (false≢true live) }

pub orderly_names : (names : List (List ℕ)) → HasNoTwice names → IsOrderly (only_names names)
orderly_names names distinct = record {
  names_distinct = distinct;
  names_known = record { classes = tt; methods = tt; doits = tt };
  class_order = no_order;
  method_order = no_order;
  class_names_distinct = λ j k n live. absurd (false≢true live);
  superclasses_live = λ j k c live. absurd (false≢true live);
  method_classes_live = λ k m live. absurd (false≢true live);
}
