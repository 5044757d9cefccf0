use Rattle.std.proofs.Common.{◌≡◌, ◌++◌, take, drop}
use Rattle.change_set.specs.Changes.{all_applied, inverses, CanApplyAll}
use Rattle.change_set.proofs.changes.apply_each.Given as goal

abbrev pub invariant-loop-number : goal.invariant-loop-number
invariant-loop-number l = record {
  can : CanApplyAll l.image (drop l.number l.changes);
  image : all_applied l.image (drop l.number l.changes) ≡ all_applied l.initial.image l.initial.changes;
  changes : take l.number l.changes ++ inverses l.image (drop l.number l.changes) ≡ inverses l.initial.image l.initial.changes;
}
