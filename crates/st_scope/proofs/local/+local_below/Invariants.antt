use Rattle.std.proofs.Common.{length}
use Rattle.st_scope.proofs.local.+local_below.Given as goal

abbrev pub decreases-local_below : goal.decreases-local_below
decreases-local_below l = length l.steps.now
