use Rattle.std.proofs.Common.{◌≡◌, ℕ, ◌+◌, drop}
use Rattle.tree_model.specs.Path.{nth, all_arguments}
use Rattle.st_tree.specs.View.{messages_of}
use Rattle.st_tree.specs.Replaced.{IsPlace}
use Rattle.st_tree.proofs.tree.Messages.place.Given as goal

abbrev pub invariant-loop-i : goal.invariant-loop-i
invariant-loop-i l =
    record {
      same : nth (all_arguments (messages_of l.self)) l.at ≡ nth (all_arguments (messages_of (drop l.i l.self))) l.left;
      places : (i j : ℕ) → IsPlace (drop l.i l.self) l.left i j → IsPlace l.self l.at (l.i + i) j;
    }
