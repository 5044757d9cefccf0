use Rattle.std.proofs.Common.{nat_eq, ap, ◌∙◌}
use Rattle.std.specs.List.{list_any}
use Rattle.class_table.specs.Order.{OrderOf}
use Rattle.class_table.proofs.OrderLemmas.{gone-without}
use Rattle.class_table.proofs.method_order.MethodOrder.set_live.Goals as goal

pub put-requires-clause-not_live : goal.put-requires-clause-not_live
put-requires-clause-not_live c =
    ap (λ (o : OrderOf). list_any (nat_eq c.args.slot) o.items) c.take_out-former.ensures.order ∙ gone-without c.args.slot c.args.self.now.items c.items.ensures.order.distinct
