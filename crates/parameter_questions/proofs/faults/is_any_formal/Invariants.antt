use Rattle.std.proofs.Common.{◌≡◌, drop}
use Rattle.std.specs.Prelude.{nat_eq}
use Rattle.std.specs.List.{list_any}
use Rattle.scope_model.specs.NameTests.{is_pseudo_in}
use Rattle.scope_model.specs.Scope.{local_in}
use Rattle.st_tree.specs.View.{method_of}
use Rattle.command_model.specs.Places.{is_formal}
use Rattle.placed_nodes.specs.Placing.{placed}
use Rattle.parameter_questions.proofs.faults.is_any_formal.Given as goal

abbrev pub invariant-loop-node : goal.invariant-loop-node
invariant-loop-node l =
    list_any (λ e. is_formal (local_in nat_eq (is_pseudo_in l.names) (method_of l.tree) e.0 l.name)) (placed (drop l.node-index l.found))
    ≡ list_any (λ e. is_formal (local_in nat_eq (is_pseudo_in l.names) (method_of l.tree) e.0 l.name)) (placed l.found)
