use Rattle.case_tables.proofs.Appended.{counted_more}
use Rattle.case_tables.proofs.table.push_count.Goals as goal

pub loop-number-preserved : goal.loop-number-preserved
loop-number-preserved c =
    counted_more c.args.before c.loop-number.number c.args.bytes.now c.loop-number.into.items c.push_numbered.new.into.items _ c.loop-number-test.true c.in_ok-push_numbered.ensures c.loop-number.invariant
