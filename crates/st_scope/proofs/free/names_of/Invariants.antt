use Rattle.std.proofs.Common.{◌≡◌, take}
use Rattle.st_scope.proofs.free.names_of.Given as goal

abbrev pub invariant-loop-number : goal.invariant-loop-number
invariant-loop-number l = l.names.items ≡ take l.number-index l.numbers
