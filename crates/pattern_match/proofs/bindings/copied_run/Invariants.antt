use Rattle.std.proofs.Common.{◌≡◌, take}
use Rattle.pattern_match.proofs.bindings.copied_run.Given as goal

abbrev pub invariant-loop-statement : goal.invariant-loop-statement
invariant-loop-statement l = l.items.items ≡ take l.statement-index l.run
