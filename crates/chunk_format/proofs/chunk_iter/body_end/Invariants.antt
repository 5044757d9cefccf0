use Rattle.std.proofs.Common.{◌≡◌, ◌≤◌, ◌-◌, length, take}
use Rattle.rb_base.specs.Doubling.{IsPaired}
use Rattle.chunk_format.specs.Chunks.{holds_mark}
use Rattle.chunk_format.proofs.chunk_iter.body_end.Given as goal

abbrev pub invariant-loop-skipped : goal.invariant-loop-skipped
invariant-loop-skipped l = record {
  inside : l.from ≤ length l.text;
  paired : IsPaired 33 (take l.from l.text);
  doubled : l.doubled ≡ holds_mark (take l.from l.text);
}

abbrev pub decreases-loop-skipped : goal.decreases-loop-skipped
decreases-loop-skipped l = length l.text - l.from
