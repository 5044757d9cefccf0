-- An image of nothing.
use Rattle.std.proofs.Common.{◌≡◌, ℕ, [], subst, sym, arith}
use Rattle.std.proofs.lemmas.Bool.{false≢true}
use Rattle.class_table.specs.Order.{IsOrderOf}
use Rattle.class_table.specs.Slots.{Slots}
use Rattle.class_table.specs.Valid.{IsOrderly}
use Rattle.image_strip.specs.Once.{HasMethodsOnce}

abbrev pub blank : Slots
blank = record { names = []; classes = []; class_order = []; methods = []; method_order = []; doits = []; heads = 0 }

no_order : IsOrderOf (record { items = []; slots = 0 })
no_order = record { distinct = tt; below = λ k live. absurd (false≢true live) }

pub orderly_blank : (s : Slots) → s ≡ blank → IsOrderly s
orderly_blank s e = subst IsOrderly (sym e) (record {
  names_distinct = λ i j below same. absurd (omega (arith, below));
  names_known = record { classes = tt; methods = tt; doits = tt };
  class_order = no_order;
  method_order = no_order;
  class_names_distinct = λ j k n live. absurd (false≢true live);
  superclasses_live = λ j k c live. absurd (false≢true live);
  method_classes_live = λ k m live. absurd (false≢true live);
})

pub once_blank : (s : Slots) → s ≡ blank → HasMethodsOnce s
once_blank s e = subst HasMethodsOnce (sym e) (λ j k x first. absurd (cc))
