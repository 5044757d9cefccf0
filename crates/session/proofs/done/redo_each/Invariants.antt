use Rattle.std.proofs.Common.{◌≡◌, ◌++◌, take, drop}
use Rattle.session.specs.Log.{done_again, left_again, CanGoForth}
use Rattle.session.proofs.done.redo_each.Given as goal

abbrev pub invariant-loop-number : goal.invariant-loop-number
invariant-loop-number l = record {
  can : CanGoForth l.image (drop l.number l.commands);
  slots : done_again l.image (drop l.number l.commands) ≡ done_again l.initial.image l.initial.commands;
  left : take l.number l.commands ++ left_again l.image (drop l.number l.commands) ≡ left_again l.initial.image l.initial.commands;
}
