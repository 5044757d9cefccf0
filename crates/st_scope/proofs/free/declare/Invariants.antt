use Rattle.std.proofs.Common.{◌≡◌, drop}
use Rattle.scope_model.specs.NameTests.{is_pseudo_in}
use Rattle.st_scope.specs.NameLists.{with_names, ordinary}
use Rattle.st_scope.proofs.free.declare.Given as goal

abbrev pub invariant-loop-name : goal.invariant-loop-name
invariant-loop-name l =
    with_names l.bound (ordinary (is_pseudo_in l.names) (drop l.name-index l.declared)) ≡ with_names l.initial.bound (ordinary (is_pseudo_in l.names) l.declared)
