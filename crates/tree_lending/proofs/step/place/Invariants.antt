-- Of the messages from some on, the argument of the number left is the one that is looked for.
use Rattle.std.proofs.Common.{◌≡◌, ℕ, ◌+◌, drop}
use Rattle.tree_model.specs.Path.{nth, all_arguments}
use Rattle.st_tree.specs.View.{messages_of}
use Rattle.st_tree.specs.Replaced.{IsPlace}
use Rattle.tree_lending.proofs.step.place.Given as goal

abbrev pub invariant-loop-i : goal.invariant-loop-i
invariant-loop-i l =
    record {
      same : nth (all_arguments (messages_of l.messages)) l.at ≡ nth (all_arguments (messages_of (drop l.i l.messages))) l.left;
      places : (i j : ℕ) → IsPlace (drop l.i l.messages) l.left i j → IsPlace l.messages l.at (l.i + i) j;
    }
