use Rattle.std.proofs.Common.{length, ◌-◌, ◌+◌, ◌<◌}
use Rattle.std.specs.Prelude.{slice_range}
use Rattle.rb_base.specs.Doubling.{IsPaired}
use Rattle.st_lexer.proofs.quotes.string_end.Given as goal

abbrev pub invariant-loop-at : goal.invariant-loop-at
invariant-loop-at l = record {
  low : l.from < l.at;
  inside : IsPaired 39 (slice_range l.text (l.from + 1) l.at);
}

abbrev pub decreases-loop-at : goal.decreases-loop-at
decreases-loop-at l = length l.text - l.at
