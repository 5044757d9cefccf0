use Rattle.std.proofs.Common.{◌≡◌, ◌++◌, replicate}
use Rattle.st_formatter.proofs.backward.Backward.put_tabs.Given as goal

abbrev pub invariant-loop : goal.invariant-loop
invariant-loop l = l.self ≡ replicate l.counter 9 ++ l.initial.self
