-- What a contract sees of an image: its slots, live or not, and the orders of the live ones.
use Rattle.std.specs.Prelude.{ℕ, List}
use Rattle.class_table.specs.declared.record.ClassRec.{ClassRec}
use Rattle.class_table.specs.declared.record.MethodRec.{MethodRec}
use Rattle.class_table.specs.declared.record.DoIt.{DoIt}

-- the names; the slots of classes and the order of the live ones; the slots of methods and the order of the live ones; the do-its, and how many of them stand before all else
pub record Slots : Type 0 where
  pub names : List (List ℕ)
  pub classes : List ClassRec
  pub class_order : List ℕ
  pub methods : List MethodRec
  pub method_order : List ℕ
  pub doits : List DoIt
  pub heads : ℕ
