use Rattle.std.proofs.Common.{◌≡◌, take}
use Rattle.mentions.proofs.listing.names_of.Given as goal

abbrev pub invariant-loop-number : goal.invariant-loop-number
invariant-loop-number l = l.names ≡ take l.number-index l.numbers
