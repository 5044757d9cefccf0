-- What is kept while an image is built.
use Rattle.std.specs.Prelude.{◌≡◌, ℕ, nat_eq}
use Rattle.std.specs.declared.hash.FoldHasher.{FoldHasher}
use Rattle.std.specs.declared.hash.BuildHasherDefault.{BuildHasherDefault}
use Rattle.std.specs.HashMap.{HashMap, get}
use Rattle.class_table.specs.Finding.{named_in}
use Rattle.class_table.specs.Slots.{Slots}
use Rattle.class_table.specs.Valid.{IsOrderly}
use Rattle.live_slots.specs.Live.{AllLive}

-- slots of classes by name
abbrev pub ClassTable : Type 0
ClassTable = HashMap ℕ ℕ (BuildHasherDefault FoldHasher)

-- the image so far is orderly, its slots are live, and a table gives the slot of each of its classes by name
pub record IsBuilt (table : ClassTable) (s : Slots) : Type 0 where
  pub orderly : IsOrderly s
  pub live : AllLive s
  pub by_name : (name : ℕ) → get nat_eq table name ≡ named_in s.classes s.class_order name
