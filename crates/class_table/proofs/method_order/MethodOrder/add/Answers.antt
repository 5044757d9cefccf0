use Rattle.std.proofs.Common.{◌≡◌, ◌+◌, ◌≤◌, length, arith}
use Rattle.std.proofs.lemmas.Grind.{common_steps}
use Rattle.std.specs.Vec.{vec_capacity}
use Rattle.class_table.proofs.OrderLemmas.{IsOrder-added, length-le_slots}
use Rattle.class_table.proofs.method_order.MethodOrder.add.Goals as goal

pub push_in_room-requires-2 : goal.push_in_room-requires-2
push_in_room-requires-2 c =
    let most = length-le_slots _ _ _ c.self.invariant in
    grind (arith, common_steps, most)

pub invariant_of-self-2 : goal.invariant_of-self-2
invariant_of-self-2 c =
    let most = length-le_slots _ _ _ c.self.invariant in
    let room : length c.self.inside.live.items + 1 ≤ vec_capacity c.push_in_room-2.new.items = grind (arith, common_steps, most) in
    let slot : c.len.result ≡ length c.self.inside.live.items = grind (arith, common_steps) in
    rw (c.push_in_room-2.ensures.items, c.push_in_room.ensures.items, c.in_ok-reserve-2.ensures.items, c.in_ok-reserve.ensures.items) (IsOrder-added _ _ _ c.self.invariant _ _ slot room)
