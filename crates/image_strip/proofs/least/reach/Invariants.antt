use Rattle.std.proofs.Common.{◌+◌}
use Rattle.std.specs.Prelude.{if◌then◌else◌}
use Rattle.image_strip.specs.Least.{unreached}
use Rattle.image_strip.specs.Search.{IsSearch}
use Rattle.image_strip.proofs.least.reach.Given as goal

abbrev pub invariant-loop-changed : goal.invariant-loop-changed
invariant-loop-changed g l = IsSearch l.image l.start l.changed l.found

abbrev pub decreases-loop-changed : goal.decreases-loop-changed
decreases-loop-changed g l = unreached l.image l.found + (if l.changed then 1 else 0)
