-- The tables by which live classes and methods are found.
use Rattle.std.specs.Prelude.{◌≡◌, ℕ, List, length, Bool, true, nat_eq, ◌&&◌, if◌then◌else◌, Option, Some, None}
use Rattle.std.specs.List.{list_any}
use Rattle.std.specs.HashMap.{get}
use Rattle.class_table.specs.declared.record.ClassRec.{ClassRec}
use Rattle.class_table.specs.declared.record.MethodRec.{MethodRec}
use Rattle.class_table.specs.declared.tables.MethodKey.{MethodKey}
use Rattle.class_table.specs.declared.tables.ClassTable.{ClassTable}
use Rattle.class_table.specs.declared.tables.MethodTable.{MethodTable}
use Rattle.class_table.specs.Order.{OrderOf}
use Rattle.class_table.specs.View.{class_name}
use Rattle.class_table.specs.Finding.{same_key, key_in}

-- the key of a method
abbrev pub key_of : MethodRec → MethodKey
key_of m = record { class = m.class; meta = m.meta; selector = m.tree.selector }

-- the slot, if it is live and passes a test
abbrev pub known_at : (ℕ → Bool) → List ℕ → ℕ → Option ℕ
known_at test order k = if list_any (nat_eq k) order && test k then Some k else None

-- each number in an order is in another one, or is that of the slot
abbrev pub IsAmongAnd : List ℕ → List ℕ → ℕ → Type 0
IsAmongAnd later order slot = (k : ℕ) → list_any (nat_eq k) later ≡ true → (k ≡ slot → ⊥) → list_any (nat_eq k) order ≡ true

module _ {K : Type 0} where
  -- what is given at the key of each live slot is that slot, but for one slot that is excepted
  abbrev pub HoldsSlots : (K → Option ℕ) → (ℕ → Option K) → List ℕ → Option ℕ → Type 0
  HoldsSlots at key order except = (k : ℕ) (q : K) → list_any (nat_eq k) order ≡ true → (except ≡ Some k → ⊥) → key k ≡ Some q → at q ≡ Some k

  -- the keys of slots, with another one for a slot
  abbrev pub key_with : (ℕ → Option K) → ℕ → K → ℕ → Option K
  key_with key slot q k = if nat_eq k slot then Some q else key k

-- where the table is ready, it gives each live class at its name
abbrev pub KnowsClasses : ClassTable → List ClassRec → List ℕ → Type 0
KnowsClasses table classes order = table.ready ≡ true → HoldsSlots (get nat_eq table.slots) (class_name classes) order None

-- the same once a class is live in a slot too, under a name
abbrev pub KnowsClassesWith : ClassTable → List ClassRec → List ℕ → ℕ → ℕ → Type 0
KnowsClassesWith table classes order slot name =
    table.ready ≡ true → (later : List ℕ) → IsAmongAnd later order slot → HoldsSlots (get nat_eq table.slots) (key_with (class_name classes) slot name) later None

-- where the table is ready, it gives each live method at its key, but for the lent one
abbrev pub KnowsMethods : MethodTable → List MethodRec → List ℕ → Type 0
KnowsMethods table methods order = table.ready ≡ true → HoldsSlots (get same_key table.slots) (key_in methods) order table.lent

-- the same, the lent one not excepted, once a method is live in a slot too, under a key
abbrev pub KnowsMethodsWith : MethodTable → List MethodRec → List ℕ → ℕ → MethodKey → Type 0
KnowsMethodsWith table methods order slot key =
    table.ready ≡ true → (later : List ℕ) → IsAmongAnd later order slot → HoldsSlots (get same_key table.slots) (key_with (key_in methods) slot key) later None

-- each number in an order is in another one, or is that of a slot that has a place
pub record IsPlaced (later order : List ℕ) (slot : ℕ) (place : Option ℕ) : Type 0 where
  pub among : IsAmongAnd later order slot
  pub out : place ≡ None → (k : ℕ) → list_any (nat_eq k) later ≡ true → list_any (nat_eq k) order ≡ true

-- what an image keeps: each slot has a flag in its order, and the tables know the live slots where they are ready
pub record KeepsSlots (by_name : ClassTable) (by_key : MethodTable) (classes : List ClassRec) (class_order : OrderOf) (methods : List MethodRec) (method_order : OrderOf) : Type 0 where
  pub class_slots : class_order.slots ≡ length classes
  pub method_slots : method_order.slots ≡ length methods
  pub names : KnowsClasses by_name classes class_order.items
  pub keys : KnowsMethods by_key methods method_order.items
