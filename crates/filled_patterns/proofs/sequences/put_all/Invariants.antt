use Rattle.std.proofs.Common.{◌≡◌}
use Rattle.filled_patterns.specs.Filling.{state_of, put_all}
use Rattle.filled_patterns.proofs.sequences.put_all.Given as goal

abbrev pub invariant-loop-statement : goal.invariant-loop-statement
invariant-loop-statement l = state_of l.all ≡ put_all (state_of l.initial.all) l.yielded
