use Rattle.std.proofs.Common.{take}
use Rattle.draft_orders.specs.Tables.{IsClassPlaces}
use Rattle.draft_orders.proofs.classes.place_table.Given as goal

abbrev pub invariant-loop-stated : goal.invariant-loop-stated
invariant-loop-stated l = IsClassPlaces (take l.stated-index l.places) l.table
