use Rattle.std.proofs.Common.{◌≡◌, filter, take}
use Rattle.method_plans.specs.Named.{receives}
use Rattle.method_plans.proofs.down.receivers.Given as goal

abbrev pub invariant-loop-class : goal.invariant-loop-class
invariant-loop-class l = l.found ≡ filter (receives l.image l.method) (take l.class-index l.class-items)
