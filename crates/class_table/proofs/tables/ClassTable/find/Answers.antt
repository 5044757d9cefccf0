use Rattle.std.proofs.Common.{◌∙◌, nat_eq}
use Rattle.std.specs.HashMap.{get}
use Rattle.class_table.proofs.Known.{class_found}
use Rattle.class_table.proofs.tables.ClassTable.find.Goals as goal

pub returns-then-self : goal.returns-then-self
returns-then-self c = c.known.ensures ∙ class_found (get nat_eq c.args.self.now.slots) c.args.classes.now c.args.order.now.items (c.requires c.if-self.true) c.args.name
