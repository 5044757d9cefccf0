use Rattle.std.proofs.Common.{arith}
use Rattle.std.proofs.lemmas.Grind.{common_steps}
use Rattle.image_laws.specs.Orders.{HasOrders}
use Rattle.change_set.proofs.Turns.{redoes}
use Rattle.change_set.proofs.changes.undo_all.Goals as goal

pub returns-clause-image : goal.returns-clause-image
returns-clause-image c = grind arith

pub returns-clause-changes : goal.returns-clause-changes
returns-clause-changes c = grind (arith, common_steps)

pub returns-clause-redo : goal.returns-clause-redo
returns-clause-redo c =
    let orders : HasOrders c.args.image.now = record { classes = c.classes.ensures.order; methods = c.methods.ensures.order } in
    redoes c.args.image.now _ c.args.changes.now _ orders c.requires (returns-clause-image c) (returns-clause-changes c)
