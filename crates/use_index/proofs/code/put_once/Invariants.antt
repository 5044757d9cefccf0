use Rattle.std.proofs.Common.{◌≡◌, ◌++◌, take}
use Rattle.use_index.specs.Uses.{uses_of}
use Rattle.use_index.proofs.code.put_once.Given as goal

abbrev pub invariant-loop-name : goal.invariant-loop-name
invariant-loop-name l = (l.seen ≡ take l.name-index l.names) × (l.uses ≡ l.initial.uses ++ uses_of l.way l.path l.seen)
