use Rattle.std.proofs.Common.{length}
use Rattle.inlined_code.proofs.passing.+passed_as.Given as goal

abbrev pub decreases-passed_as : goal.decreases-passed_as
decreases-passed_as l = length l.formals.now
