use Rattle.std.proofs.Common.{◌≡◌, ◌≤◌, length, take}
use Rattle.grammar_model.specs.Machine.{wish}
use Rattle.st_faults.specs.Stacks.{stack_of}
use Rattle.st_faults.proofs.stack.wanted.Given as goal

abbrev pub invariant-loop-count : goal.invariant-loop-count
invariant-loop-count l = record {
  inside : l.count ≤ length l.stack;
  same : wish (stack_of l.stack) ≡ wish (stack_of (take l.count l.stack));
}

abbrev pub decreases-loop-count : goal.decreases-loop-count
decreases-loop-count l = l.count
