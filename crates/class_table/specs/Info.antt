-- What accessors tell of methods and do-its.
use Rattle.std.specs.Prelude.{◌≡◌, ℕ, List, Option, None, Some, slice_get, option_map}
use Rattle.class_table.specs.declared.record.MethodRec.{MethodRec}
use Rattle.class_table.specs.declared.record.MethodInfo.{MethodInfo}
use Rattle.class_table.specs.declared.record.DoIt.{DoIt}

-- the parts of a method without its tree
pub record TellsOf (info : MethodInfo) (m : MethodRec) : Type 0 where
  pub class : info.class ≡ m.class
  pub meta : info.meta ≡ m.meta
  pub selector : info.selector ≡ m.tree.selector
  pub protocol : info.protocol.now ≡ m.protocol
  pub source : info.source.now ≡ m.source
  pub kernel : info.kernel ≡ m.kernel

-- there is an answer exactly where there is a method, and it tells of that method
abbrev pub IsInfoOf : Option MethodInfo → Option MethodRec → Type 0
IsInfoOf None None = Unit {0}
IsInfoOf None (Some m) = ⊥
IsInfoOf (Some info) None = ⊥
IsInfoOf (Some info) (Some m) = TellsOf info m

-- the source of the do-it of a number
abbrev pub source_at : List DoIt → ℕ → Option (List ℕ)
source_at doits number = option_map (λ (d : DoIt). d.source) (slice_get doits number)
