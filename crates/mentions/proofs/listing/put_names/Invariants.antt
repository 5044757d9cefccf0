use Rattle.std.proofs.Common.{◌≡◌, ◌++◌, take}
use Rattle.mentions.proofs.listing.put_names.Given as goal

abbrev pub invariant-loop-name : goal.invariant-loop-name
invariant-loop-name l = l.numbers.items ≡ l.initial.numbers.items ++ take l.name-index l.names
