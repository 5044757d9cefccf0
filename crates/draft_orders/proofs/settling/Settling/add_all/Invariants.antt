use Rattle.std.proofs.Common.{◌≡◌, ◌++◌, []}
use Rattle.std.specs.Vec.Iter.{into_iter_items}
use Rattle.draft_orders.specs.Settling.{left, AreReady}
use Rattle.draft_orders.proofs.settling.Settling.add_all.Given as goal

abbrev pub invariant-loop-class : goal.invariant-loop-class
invariant-loop-class l = AreReady l.self × (l.self.taken.items ≡ []) × (left l.self.slots.items ++ into_iter_items l.class-iterator ≡ l.fn.classes.items)
