use Rattle.std.proofs.Common.{◌<◌, length, arith}
use Rattle.std.proofs.lemmas.Grind.{common_steps}
use Rattle.class_table.proofs.OrderLemmas.{IsOrder-taken, position-some, position-none}
use Rattle.class_table.proofs.method_order.MethodOrder.take_out.Goals as goal

pub index_mut-requires : goal.index_mut-requires
index_mut-requires c =
    let below : c.args.slot < length c.self.inside.live.items = c.self.invariant.below c.args.slot ((position-some c.args.slot c.self.inside.items.items c.in-Some.place (rw c.deref.ensures.value at c.in-Some.ensures)).2) in
    grind (arith, common_steps)

pub invariant_of-self : goal.invariant_of-self
invariant_of-self c = rw c.slot.view_is (IsOrder-taken _ _ _ c.self.invariant c.args.slot c.in-Some.place _ _ (rw c.deref.ensures.value at c.in-Some.ensures) c.remove.ensures.items (omega arith))

pub returns-in-None-clause-order : goal.returns-in-None-clause-order
returns-in-None-clause-order c = grind (arith, common_steps, position-none, c.self.view_is)

pub returns-in-Some-clause-order : goal.returns-in-Some-clause-order
returns-in-Some-clause-order c = grind (arith, common_steps, position-some, c.self.view_is)
