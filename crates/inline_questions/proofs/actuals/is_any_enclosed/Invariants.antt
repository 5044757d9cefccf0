use Rattle.std.proofs.Common.{◌≡◌, drop}
use Rattle.std.specs.List.{list_any}
use Rattle.st_tree.specs.View.{method_of}
use Rattle.placed_nodes.specs.Placing.{placed}
use Rattle.inline_questions.specs.Actuals.{is_enclosed}
use Rattle.inline_questions.proofs.actuals.is_any_enclosed.Given as goal

abbrev pub invariant-loop-node : goal.invariant-loop-node
invariant-loop-node l =
    list_any (is_enclosed l.names (method_of l.method) l.formal) (placed (drop l.node-index l.found)) ≡ list_any (is_enclosed l.names (method_of l.method) l.formal) (placed l.found)
