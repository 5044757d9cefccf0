use Rattle.std.proofs.Common.{◌≡◌, take}
use Rattle.st_meaning.proofs.names.SharedNames.new.Given as goal

abbrev pub invariant-loop-number : goal.invariant-loop-number
invariant-loop-number l = l.texts.items ≡ take l.number l.names
