use Rattle.std.proofs.Common.{◌≡◌, take}
use Rattle.event_checks.specs.Heights.{greatest}
use Rattle.event_checks.proofs.heights.greatest.Given as goal

abbrev pub invariant-loop-height : goal.invariant-loop-height
invariant-loop-height l = l.greatest ≡ greatest (take l.height-index l.heights)
