use Rattle.std.proofs.Common.{◌≡◌, ◌≤◌, length, take}
use Rattle.tree_model.specs.Tree.{LiteralOf}
use Rattle.grammar_model.specs.Terminal.{Text}
use Rattle.grammar_model.specs.Machine.{step}
use Rattle.st_faults.specs.Sorts.{terminal}
use Rattle.st_faults.specs.Stacks.{stack_of}
use Rattle.st_faults.proofs.stack.find.Given as goal

abbrev pub invariant-loop-count : goal.invariant-loop-count
invariant-loop-count l = record {
  inside : l.count ≤ length l.stack;
  same : (s : Text) (t : LiteralOf Text) → step (stack_of l.stack) (terminal l.sort s t) ≡ step (stack_of (take l.count l.stack)) (terminal l.sort s t);
}

abbrev pub decreases-loop-count : goal.decreases-loop-count
decreases-loop-count l = l.count
