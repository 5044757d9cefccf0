use Rattle.std.proofs.Common.{◌≡◌, drop, nat_eq}
use Rattle.std.specs.List.{list_any}
use Rattle.tree_model.specs.Tree.{trees_of}
use Rattle.tree_model.specs.Measure.{weight, trees_weight, messages_weight, statements_weight}
use Rattle.scope_model.specs.NameTests.{is_pseudo_in, form_in}
use Rattle.scope_model.specs.Uses.{trees_uses, messages_uses, statements_uses}
use Rattle.st_tree.specs.View.{messages_of, statements_of}
use Rattle.st_scope.specs.Captures.{is_hit}
use Rattle.st_scope.proofs.closures.+closures.Given as goal

abbrev pub decreases-assigns : goal.decreases-assigns
decreases-assigns l = weight l.node.now

abbrev pub decreases-any_assigns : goal.decreases-any_assigns
decreases-any_assigns l = trees_weight (trees_of l.nodes.now)

abbrev pub decreases-messages_assign : goal.decreases-messages_assign
decreases-messages_assign l = messages_weight (messages_of l.messages.now)

abbrev pub decreases-statements_assign : goal.decreases-statements_assign
decreases-statements_assign l = statements_weight (statements_of l.statements.now)

abbrev pub invariant-any_assigns-loop-node : goal.invariant-any_assigns-loop-node
invariant-any_assigns-loop-node l =
    list_any (is_hit l.inside l.name) (trees_uses nat_eq (is_pseudo_in l.names) (form_in l.names) l.in_place (trees_of l.nodes))
    ≡ list_any (is_hit l.inside l.name) (trees_uses nat_eq (is_pseudo_in l.names) (form_in l.names) l.in_place (trees_of (drop l.node-index l.nodes)))

abbrev pub invariant-messages_assign-loop-message : goal.invariant-messages_assign-loop-message
invariant-messages_assign-loop-message l =
    list_any (is_hit l.inside l.name) (messages_uses nat_eq (is_pseudo_in l.names) (form_in l.names) (messages_of l.messages))
    ≡ list_any (is_hit l.inside l.name) (messages_uses nat_eq (is_pseudo_in l.names) (form_in l.names) (messages_of (drop l.message-index l.messages)))

abbrev pub invariant-statements_assign-loop-statement : goal.invariant-statements_assign-loop-statement
invariant-statements_assign-loop-statement l =
    list_any (is_hit l.inside l.name) (statements_uses nat_eq (is_pseudo_in l.names) (form_in l.names) (statements_of l.statements))
    ≡ list_any (is_hit l.inside l.name) (statements_uses nat_eq (is_pseudo_in l.names) (form_in l.names) (statements_of (drop l.statement-index l.statements)))
