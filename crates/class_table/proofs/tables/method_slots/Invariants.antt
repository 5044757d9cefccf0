use Rattle.std.proofs.Common.{take, None}
use Rattle.std.specs.HashMap.{get}
use Rattle.class_table.specs.Finding.{same_key, key_in}
use Rattle.class_table.specs.Tables.{HoldsSlots}
use Rattle.class_table.proofs.tables.method_slots.Given as goal

abbrev pub invariant-loop-slot : goal.invariant-loop-slot
invariant-loop-slot l = HoldsSlots (get same_key l.slots) (key_in l.methods) (take l.slot-index l.order) None
