use Rattle.case_tables.proofs.Appended.{repeated_more}
use Rattle.case_tables.proofs.table.push_times.Goals as goal

pub loop-preserved : goal.loop-preserved
loop-preserved c = repeated_more c.args.times c.loop.counter c.args.bytes.now c.loop.into.items c.extend_from_slice.new.self.items _ c.loop-test.true c.in_ok-extend_from_slice.ensures.items c.loop.invariant
