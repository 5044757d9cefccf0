use Rattle.std.proofs.Common.{◌≡◌, ◌≤◌, ◌-◌, length, take}
use Rattle.rb_base.specs.Doubling.{doubled}
use Rattle.chunk_format.proofs.source.double_marks.Given as goal

abbrev pub invariant-loop-skipped : goal.invariant-loop-skipped
invariant-loop-skipped l = record {
  inside : l.from ≤ length l.source;
  so_far : l.written.items ≡ doubled 33 (take l.from l.source);
}

abbrev pub decreases-loop-skipped : goal.decreases-loop-skipped
decreases-loop-skipped l = length l.source - l.from
