use Rattle.std.proofs.Common.{◌≡◌, ◌≤◌, ◌-◌, length, take, drop}
use Rattle.rb_base.specs.Doubling.{IsPaired, doubled}
use Rattle.chunk_format.proofs.source.halve_marks.Given as goal

abbrev pub invariant-loop-skipped : goal.invariant-loop-skipped
invariant-loop-skipped l = record {
  inside : l.from ≤ length l.paired;
  so_far : doubled 33 l.halved.items ≡ take l.from l.paired;
  rest : IsPaired 33 (drop l.from l.paired);
}

abbrev pub decreases-loop-skipped : goal.decreases-loop-skipped
decreases-loop-skipped l = length l.paired - l.from
