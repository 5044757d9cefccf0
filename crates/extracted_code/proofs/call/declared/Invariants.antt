use Rattle.std.proofs.Common.{◌≡◌, take}
use Rattle.std.specs.Prelude.{nat_eq, filter}
use Rattle.scope_model.specs.NameTests.{is_pseudo_in}
use Rattle.scope_model.specs.Scope.{local_in}
use Rattle.st_tree.specs.View.{method_of}
use Rattle.command_model.specs.Places.{is_local}
use Rattle.extracted_code.proofs.call.declared.Given as goal

abbrev pub invariant-loop-name : goal.invariant-loop-name
invariant-loop-name l = l.found ≡ filter (λ n. is_local (local_in nat_eq (is_pseudo_in l.names) (method_of l.method) l.path n)) (take l.name-index l.all)
