use Rattle.std.proofs.Common.{◌≡◌, ◌<◌, length, nat_eq, false, arith, ap, ◌∙◌}
use Rattle.std.specs.List.{list_any}
use Rattle.std.proofs.lemmas.Grind.{common_steps}
use Rattle.class_table.specs.Order.{OrderOf}
use Rattle.class_table.proofs.OrderLemmas.{IsOrder-put, room_left}
use Rattle.class_table.proofs.class_order.ClassOrder.put.Goals as goal

pub insert_in_room-requires-clause-room : goal.insert_in_room-requires-clause-room
insert_in_room-requires-clause-room c =
    let there : c.args.slot < length c.self.inside.live.items = omega (arith, ap (λ (o : OrderOf). o.slots) c.self.view_is) in
    let new : list_any (nat_eq c.args.slot) c.self.inside.items.items ≡ false = ap (λ (o : OrderOf). list_any (nat_eq c.args.slot) o.items) c.self.view_is ∙ c.requires.not_live in
    let room = room_left _ _ _ c.self.invariant c.args.slot there new in
    grind (arith, common_steps, room)

pub invariant_of-self : goal.invariant_of-self
invariant_of-self c =
    let there : c.args.slot < length c.self.inside.live.items = omega (arith, ap (λ (o : OrderOf). o.slots) c.self.view_is) in
    let new : list_any (nat_eq c.args.slot) c.self.inside.items.items ≡ false = ap (λ (o : OrderOf). list_any (nat_eq c.args.slot) o.items) c.self.view_is ∙ c.requires.not_live in
    rw (c.slot.view_is, c.insert_in_room.ensures.items) (IsOrder-put _ _ _ c.self.invariant c.args.slot c.args.place _ there new c.insert_in_room.ensures.capacity)
