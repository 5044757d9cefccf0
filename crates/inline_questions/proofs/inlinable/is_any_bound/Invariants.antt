use Rattle.std.proofs.Common.{◌≡◌, drop}
use Rattle.std.specs.List.{list_any}
use Rattle.placed_nodes.specs.Placing.{placed}
use Rattle.commands.specs.Views.{asked_by}
use Rattle.inline_questions.specs.Bound.{is_bound}
use Rattle.inline_questions.proofs.inlinable.is_any_bound.Given as goal

abbrev pub invariant-loop-node : goal.invariant-loop-node
invariant-loop-node l =
    list_any (is_bound (asked_by l.names).is_super l.same_class) (placed (drop l.node-index l.found)) ≡ list_any (is_bound (asked_by l.names).is_super l.same_class) (placed l.found)
