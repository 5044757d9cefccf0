use Rattle.std.proofs.Common.{take, None}
use Rattle.std.specs.Prelude.{nat_eq}
use Rattle.std.specs.HashMap.{get}
use Rattle.class_table.specs.View.{class_name}
use Rattle.class_table.specs.Tables.{HoldsSlots}
use Rattle.class_table.proofs.tables.class_slots.Given as goal

abbrev pub invariant-loop-id : goal.invariant-loop-id
invariant-loop-id l = HoldsSlots (get nat_eq l.slots) (class_name l.classes) (take l.id-index l.order) None
