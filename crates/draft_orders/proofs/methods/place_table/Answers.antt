use Rattle.draft_orders.proofs.Stated.{method_stated}
use Rattle.draft_orders.proofs.methods.place_table.Goals as goal

pub loop-stated-preserved : goal.loop-stated-preserved
loop-stated-preserved c =
    method_stated c.args.places.now c.loop-stated.stated-index c.stated-item.result c.loop-stated.table c.note.new.table c.loop-stated-test.true c.stated-item.is c.loop-stated.invariant
    c.in_ok-note.ensures
