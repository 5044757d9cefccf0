-- Each case leaves less to be read.
use Rattle.std.proofs.Common.{length}
use Rattle.case_tables.proofs.run.run_cases.Given as goal

abbrev pub decreases-loop-case : goal.decreases-loop-case
decreases-loop-case g l = length l.table.rest.now
