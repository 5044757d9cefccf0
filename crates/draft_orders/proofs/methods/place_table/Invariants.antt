use Rattle.std.proofs.Common.{take}
use Rattle.draft_orders.specs.Tables.{IsMethodPlaces}
use Rattle.draft_orders.proofs.methods.place_table.Given as goal

abbrev pub invariant-loop-stated : goal.invariant-loop-stated
invariant-loop-stated l = IsMethodPlaces (take l.stated-index l.places) l.table
