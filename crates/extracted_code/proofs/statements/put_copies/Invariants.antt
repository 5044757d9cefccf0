use Rattle.std.proofs.Common.{◌≡◌, ◌++◌, take}
use Rattle.extracted_code.proofs.statements.put_copies.Given as goal

abbrev pub invariant-loop-statement : goal.invariant-loop-statement
invariant-loop-statement l = l.out ≡ l.initial.out ++ take l.statement-index l.statements
