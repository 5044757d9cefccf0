use Rattle.std.proofs.Common.{◌≡◌, ◌++◌, take}
use Rattle.parameter_questions.proofs.temporaries.put_names.Given as goal

abbrev pub invariant-loop-name : goal.invariant-loop-name
invariant-loop-name l = l.declared ≡ l.initial.declared ++ take l.name-index l.names
