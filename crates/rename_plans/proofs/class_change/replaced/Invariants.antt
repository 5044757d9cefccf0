use Rattle.std.proofs.Common.{◌≡◌, map, take}
use Rattle.plan_laws.specs.Planned.{in_place}
use Rattle.rename_plans.proofs.class_change.replaced.Given as goal

abbrev pub invariant-loop-name : goal.invariant-loop-name
invariant-loop-name l = l.found ≡ map (in_place l.old l.new) (take l.name-index l.name-items)
