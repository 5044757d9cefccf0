use Rattle.std.proofs.Common.{◌≡◌, ◌++◌}
use Rattle.st_formatter.proofs.gaps.written.Given as goal

abbrev pub invariant-loop : goal.invariant-loop
invariant-loop l = l.done.items ++ l.text ≡ l.initial.text
