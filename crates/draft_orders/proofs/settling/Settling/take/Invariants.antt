use Rattle.std.proofs.Common.{◌≡◌, ◌-◌, nat_eq}
use Rattle.file_model.specs.Hierarchy.{settle_behind}
use Rattle.draft_orders.specs.Settling.{left, AreReady}
use Rattle.draft_orders.proofs.settling.Settling.take.Given as goal

abbrev pub invariant-loop : goal.invariant-loop
invariant-loop l =
    AreReady l.self
    × (settle_behind nat_eq (l.count - l.counter) l.self.taken.items (left l.self.slots.items) ≡ settle_behind nat_eq l.count l.fn.self.taken.items (left l.fn.self.slots.items))
