use Rattle.std.proofs.Common.{sym, ◌∙◌}
use Rattle.std.specs.HashMap.{get}
use Rattle.class_table.specs.Finding.{same_key}
use Rattle.class_table.proofs.Known.{method_found, lent_found}
use Rattle.class_table.proofs.tables.MethodTable.find.Goals as goal

pub returns-in-None : goal.returns-in-None
returns-in-None c =
    c.known-known.ensures
    ∙ method_found (get same_key c.args.self.now.slots) c.args.methods.now c.args.order.now.items c.args.self.now.lent (c.requires c.if-not-self.false) c.args.key (sym c.in-None.ensures)

pub returns-then-is_no_method_but : goal.returns-then-is_no_method_but
returns-then-is_no_method_but c =
    lent_found (get same_key c.args.self.now.slots) c.args.methods.now c.args.order.now.items c.args.self.now.lent (c.requires c.if-not-self.false) c.args.key c.in-Some.slot (sym c.in-Some.ensures)
    (λ k e. c.is_no_method_but.ensures c.if-is_no_method_but.true k (c.known-known.ensures ∙ e))
