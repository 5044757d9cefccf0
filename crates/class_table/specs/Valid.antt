-- What holds of the slots of a whole image, as it is before and after a command.
use Rattle.std.specs.Prelude.{◌≡◌, ℕ, ◌<◌, List, length, true, Some, slice_get, nat_eq}
use Rattle.std.specs.List.{list_any}
use Rattle.rb_base.specs.Names.{HasNoTwice}
use Rattle.image_model.specs.ImageNames.{ImageNames}
use Rattle.class_table.specs.declared.record.ClassRec.{ClassRec}
use Rattle.class_table.specs.declared.record.MethodRec.{MethodRec}
use Rattle.class_table.specs.Order.{IsOrderOf}
use Rattle.class_table.specs.Slots.{Slots}
use Rattle.class_table.specs.View.{class_name, number_image}

-- the slot stands in the order of the live ones
abbrev pub IsLive : List ℕ → ℕ → Type 0
IsLive order k = list_any (nat_eq k) order ≡ true

-- the superclass of each live class that has one is live, and stands before it in the order of the live ones
abbrev pub SuperclassesFirst : List ClassRec → List ℕ → Type 0
SuperclassesFirst classes order =
    (p k j : ℕ) (c : ClassRec) → slice_get order p ≡ Some k → slice_get classes k ≡ Some c → c.superclass ≡ Some j → (q : ℕ) × (q < p) × (slice_get order q ≡ Some j)

-- no text has two numbers, each name in the image has a text, each live slot is there, two live classes have two names, and the superclass of a live class and the class of a live method are live
pub record IsOrderly (s : Slots) : Type 0 where
  pub names_distinct : HasNoTwice s.names
  pub names_known : ImageNames (λ n. n < length s.names) (number_image s)
  pub class_order : IsOrderOf (record { items = s.class_order; slots = length s.classes })
  pub method_order : IsOrderOf (record { items = s.method_order; slots = length s.methods })
  pub class_names_distinct : (j k n : ℕ) → IsLive s.class_order j → IsLive s.class_order k → class_name s.classes j ≡ Some n → class_name s.classes k ≡ Some n → j ≡ k
  pub superclasses_live : (j k : ℕ) (c : ClassRec) → IsLive s.class_order k → slice_get s.classes k ≡ Some c → c.superclass ≡ Some j → IsLive s.class_order j
  pub method_classes_live : (k : ℕ) (m : MethodRec) → IsLive s.method_order k → slice_get s.methods k ≡ Some m → IsLive s.class_order m.class
