use Rattle.std.proofs.Common.{◌≡◌, drop, map, option_map}
use Rattle.std.specs.Prelude.{filter}
use Rattle.std.specs.Option.{option_copied}
use Rattle.st_tree.specs.View.{method_of}
use Rattle.command_model.specs.Temporaries.{only}
use Rattle.let_code.specs.Uses.{as_placed, is_assigned}
use Rattle.let_code.proofs.Only.{one_of}
use Rattle.let_code.proofs.assignment.only_assigned.Given as goal

abbrev pub invariant-loop-placed : goal.invariant-loop-placed
invariant-loop-placed l =
    one_of as_placed (is_assigned l.names (method_of l.method) l.variable) (option_map as_placed (option_copied l.found)) (drop l.placed-index l.nodes)
    ≡ only (filter (is_assigned l.names (method_of l.method) l.variable) (map as_placed l.nodes))
