use Rattle.use_index.proofs.Walks.{doits-step}
use Rattle.use_index.proofs.found.put_doits.Goals as goal

pub loop-number-preserved : goal.loop-number-preserved
loop-number-preserved c =
    doits-step c.args.index.now c.args.name c.args.what c.loop-number.number _ c.loop-number.found.items c.put_row.new.found.items
    c.loop-number.invariant
    (rw c.used-row.ensures at c.in_ok-put_row.ensures)
