use Rattle.std.proofs.Common.{◌≡◌, ◌≤◌, ◌++◌, length, take, drop}
use Rattle.session.specs.Log.{taken_back, left_back, CanGoBack}
use Rattle.session.proofs.done.undo_each.Given as goal

abbrev pub invariant-loop-number : goal.invariant-loop-number
invariant-loop-number l = record {
  within : l.number ≤ length l.commands;
  can : CanGoBack l.image (take l.number l.commands);
  slots : taken_back l.image (take l.number l.commands) ≡ taken_back l.initial.image l.initial.commands;
  left : left_back l.image (take l.number l.commands) ++ drop l.number l.commands ≡ left_back l.initial.image l.initial.commands;
}

abbrev pub decreases-loop-number : goal.decreases-loop-number
decreases-loop-number l = l.number
