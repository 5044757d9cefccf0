-- What is demanded of a record that comes into an orderly image.
use Rattle.std.specs.Prelude.{◌≡◌, ℕ, ◌<◌, length, slice_get, Some}
use Rattle.std.specs.List.{AllByRecursion}
use Rattle.tree_model.specs.AllNames.{MethodNames}
use Rattle.st_tree.specs.View.{method_of}
use Rattle.class_table.specs.declared.record.ClassRec.{ClassRec}
use Rattle.class_table.specs.declared.record.MethodRec.{MethodRec}
use Rattle.class_table.specs.Slots.{Slots}
use Rattle.class_table.specs.View.{class_name}
use Rattle.class_table.specs.Valid.{IsLive}

-- a method in whose tree each name has a text, and whose class is live
pub record FitsMethod (s : Slots) (m : MethodRec) : Type 0 where
  pub names_known : MethodNames (λ n. n < length s.names) (method_of m.tree)
  pub class_live : IsLive s.class_order m.class

-- a class for a slot: its names have texts, no live class of another slot has its name, and its superclass is live
pub record FitsClass (s : Slots) (k : ℕ) (c : ClassRec) : Type 0 where
  pub name_known : c.name < length s.names
  pub instance_known : AllByRecursion (λ n. n < length s.names) c.instance
  pub shared_known : AllByRecursion (λ n. n < length s.names) c.shared
  pub class_side_known : AllByRecursion (λ n. n < length s.names) c.class_side
  pub name_is_new : (j : ℕ) → IsLive s.class_order j → class_name s.classes j ≡ Some c.name → j ≡ k
  pub superclass_live : (j : ℕ) → c.superclass ≡ Some j → IsLive s.class_order j

-- no live class is below the class in a slot, and no live method is one of it
pub record IsAboveNothing (s : Slots) (k : ℕ) : Type 0 where
  pub classes : (j : ℕ) (c : ClassRec) → IsLive s.class_order j → slice_get s.classes j ≡ Some c → c.superclass ≡ Some k → ⊥
  pub methods : (j : ℕ) (m : MethodRec) → IsLive s.method_order j → slice_get s.methods j ≡ Some m → m.class ≡ k → ⊥
