use Rattle.std.proofs.Common.{◌≡◌, ◌++◌}
use Rattle.change_file.proofs.DoItTexts.{numbers_from}
use Rattle.change_file.proofs.differences.doit_differences.Given as goal

abbrev pub invariant-loop-number : goal.invariant-loop-number
invariant-loop-number l = l.found.items ++ numbers_from l.number l.earlier.doits l.later.doits ≡ numbers_from 0 l.earlier.doits l.later.doits
