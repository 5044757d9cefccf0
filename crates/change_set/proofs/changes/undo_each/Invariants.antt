use Rattle.std.proofs.Common.{◌≡◌, ◌≤◌, ◌++◌, length, take, drop}
use Rattle.change_set.specs.Changes.{all_undone, inverses_undone, CanUndoAll}
use Rattle.change_set.proofs.changes.undo_each.Given as goal

abbrev pub invariant-loop-number : goal.invariant-loop-number
invariant-loop-number l = record {
  within : l.number ≤ length l.changes;
  can : CanUndoAll l.image (take l.number l.changes);
  image : all_undone l.image (take l.number l.changes) ≡ all_undone l.initial.image l.initial.changes;
  changes : inverses_undone l.image (take l.number l.changes) ++ drop l.number l.changes ≡ inverses_undone l.initial.image l.initial.changes;
}

abbrev pub decreases-loop-number : goal.decreases-loop-number
decreases-loop-number l = l.number
