use Rattle.std.proofs.Common.{◌≡◌, ◌++◌, drop}
use Rattle.event_checks.specs.Lists.{names_of}
use Rattle.event_checks.specs.FixedNames.{texts}
use Rattle.event_checks.proofs.fixed_names.put_names.Given as goal

abbrev pub invariant-loop-declaration : goal.invariant-loop-declaration
invariant-loop-declaration l = texts l.fn.names.items ++ names_of l.declarations ≡ texts l.names.items ++ names_of (drop l.declaration-index l.declarations)
