use Rattle.std.proofs.Common.{◌≡◌, drop}
use Rattle.std.specs.List.{list_any}
use Rattle.std.specs.Str.{bytes_eq}
use Rattle.event_checks.specs.Lists.{names_of}
use Rattle.event_checks.proofs.duplicates.has_name.Given as goal

abbrev pub invariant-loop-declaration : goal.invariant-loop-declaration
invariant-loop-declaration l = list_any (bytes_eq l.name) (names_of l.declarations) ≡ list_any (bytes_eq l.name) (names_of (drop l.declaration-index l.declarations))
