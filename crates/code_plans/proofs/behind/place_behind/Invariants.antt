use Rattle.std.proofs.Common.{◌≡◌, ◌≤◌, length, take}
use Rattle.code_plans.specs.Behind.{behind_last, is_beside}
use Rattle.code_plans.proofs.behind.place_behind.Given as goal

abbrev pub invariant-loop-place : goal.invariant-loop-place
invariant-loop-place l = record {
  within : l.place ≤ length l.image.method_order;
  last : behind_last (is_beside l.image l.class l.meta) l.image.method_order ≡ behind_last (is_beside l.image l.class l.meta) (take l.place l.image.method_order);
}

abbrev pub decreases-loop-place : goal.decreases-loop-place
decreases-loop-place l = l.place
