use Rattle.std.proofs.Common.{◌≡◌, ◌++◌}
use Rattle.use_index.specs.Found.{found_in_doits}
use Rattle.use_index.proofs.found.put_doits.Given as goal

abbrev pub invariant-loop-number : goal.invariant-loop-number
invariant-loop-number l = l.found.items ≡ l.initial.found.items ++ found_in_doits l.index l.name l.what l.number
