use Rattle.std.proofs.Common.{◌≡◌, ◌↔◌, drop}
use Rattle.tree_model.specs.Tree.{trees_of}
use Rattle.tree_model.specs.Bare.{bare_trees, bare_messages, bare_statements}
use Rattle.st_tree.specs.View.{messages_of, statements_of}
use Rattle.st_tree.proofs.tree.+same.Given as goal

abbrev pub invariant-Nodes::same-loop-i : goal.invariant-Nodes::same-loop-i
invariant-Nodes::same-loop-i l =
    (bare_trees (trees_of l.self) ≡ bare_trees (trees_of l.other)) ↔ (bare_trees (trees_of (drop l.i l.self)) ≡ bare_trees (trees_of (drop l.i l.other)))

abbrev pub invariant-Messages::same-loop-i : goal.invariant-Messages::same-loop-i
invariant-Messages::same-loop-i l =
    (bare_messages (messages_of l.self) ≡ bare_messages (messages_of l.other)) ↔ (bare_messages (messages_of (drop l.i l.self)) ≡ bare_messages (messages_of (drop l.i l.other)))

abbrev pub invariant-Statements::same-loop-i : goal.invariant-Statements::same-loop-i
invariant-Statements::same-loop-i l =
    (bare_statements (statements_of l.self) ≡ bare_statements (statements_of l.other)) ↔ (bare_statements (statements_of (drop l.i l.self)) ≡ bare_statements (statements_of (drop l.i l.other)))
