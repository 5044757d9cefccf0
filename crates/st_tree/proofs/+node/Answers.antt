use Rattle.std.proofs.Common.{◌≡◌, ℕ, List, refl, ap, arith}
use Rattle.std.specs.Prelude.{is_ok}
use Rattle.tree_model.specs.Tree.{TreeOf, trees_of}
use Rattle.tree_model.specs.Measure.{weight, trees_weight, messages_weight, statements_weight}
use Rattle.st_tree.specs.View.{messages_of, statements_of}
use Rattle.st_tree.specs.declared.tree.Message.{Message}
use Rattle.st_tree.specs.declared.tree.Statement.{Statement}
use Rattle.st_tree.specs.declared.tree.Node.TheView as view
use Rattle.st_tree.proofs.Weights.{trees-last, messages-last, statements-last, some-trees, pushed}
use Rattle.st_tree.proofs.+node.Goals as goal

abbrev of_trees : List (TreeOf ℕ) → ℕ
of_trees xs = trees_weight (trees_of xs)

abbrev of_messages : List Message → ℕ
of_messages ms = messages_weight (messages_of ms)

abbrev of_statements : List Statement → ℕ
of_statements ss = statements_weight (statements_of ss)

pub tree::Node::drop-put_below-requires : goal.tree::Node::drop-put_below-requires
tree::Node::drop-put_below-requires t c =
    let same : view.size c.args.self ≡ weight c.args.self = refl in
    (omega (arith, c.decreases, same, ap weight c.self.view_is), tt)

pub tree::Node::drop-put_below-requires-in-Some-pop : goal.tree::Node::drop-put_below-requires-in-Some-pop
tree::Node::drop-put_below-requires-in-Some-pop t c =
    (omega (arith, c.decreases, ap weight c.into_kind.ensures, ap of_trees c.in-Some-pop.ensures.items, trees-last c.pop.new.self.items c.in-Some-pop.node, some-trees c.pop.new.self.items, c.loop-node.invariant), tt)

pub tree::Node::drop-loop-node-smaller : goal.tree::Node::drop-loop-node-smaller
tree::Node::drop-loop-node-smaller t c =
    omega (arith, c.put_below-in-Some-pop.ensures, ap weight c.into_kind.ensures, ap of_trees c.in-Some-pop.ensures.items, trees-last c.pop.new.self.items c.in-Some-pop.node)

pub tree::Node::drop-loop-node-preserved : goal.tree::Node::drop-loop-node-preserved
tree::Node::drop-loop-node-preserved t c =
    omega (arith, c.put_below-in-Some-pop.ensures, ap weight c.into_kind.ensures, ap of_trees c.in-Some-pop.ensures.items, trees-last c.pop.new.self.items c.in-Some-pop.node, c.loop-node.invariant)

pub tree::put_messages-put_nodes-requires : goal.tree::put_messages-put_nodes-requires
tree::put_messages-put_nodes-requires t c =
    (omega (arith, c.decreases, ap of_messages c.in-Some.ensures.items, messages-last c.pop.new.self.items c.in-Some.message, c.loop-message.invariant.left), tt)

pub tree::put_messages-loop-message-preserved : goal.tree::put_messages-loop-message-preserved
tree::put_messages-loop-message-preserved t c = record {
  sum = omega (arith, c.put_nodes.ensures, ap of_messages c.in-Some.ensures.items, messages-last c.pop.new.self.items c.in-Some.message, c.loop-message.invariant.sum);
  left = omega (arith, ap of_messages c.in-Some.ensures.items, messages-last c.pop.new.self.items c.in-Some.message, c.loop-message.invariant.left);
}

pub tree::put_node-returns : goal.tree::put_node-returns
tree::put_node-returns t c = pushed (is_ok c.push.result) c.args.waiting.now.items c.args.node c.push.new.self.items c.push.ensures.items

pub tree::put_nodes-put_node-requires : goal.tree::put_nodes-put_node-requires
tree::put_nodes-put_node-requires t c =
    (omega (arith, c.decreases, ap of_trees c.in-Some.ensures.items, trees-last c.pop.new.self.items c.in-Some.node, some-trees c.pop.new.self.items, c.loop-node.invariant.left), tt)

pub tree::put_nodes-loop-node-preserved : goal.tree::put_nodes-loop-node-preserved
tree::put_nodes-loop-node-preserved t c = record {
  sum = omega (arith, c.put_node.ensures, ap of_trees c.in-Some.ensures.items, trees-last c.pop.new.self.items c.in-Some.node, c.loop-node.invariant.sum);
  left = omega (arith, ap of_trees c.in-Some.ensures.items, trees-last c.pop.new.self.items c.in-Some.node, c.loop-node.invariant.left);
}

pub tree::put_statements-put_node-requires : goal.tree::put_statements-put_node-requires
tree::put_statements-put_node-requires t c =
    (omega (arith, c.decreases, ap of_statements c.in-Some.ensures.items, statements-last c.pop.new.self.items c.in-Some.statement, c.loop-statement.invariant.left), tt)

pub tree::put_statements-loop-statement-preserved : goal.tree::put_statements-loop-statement-preserved
tree::put_statements-loop-statement-preserved t c = record {
  sum = omega (arith, c.put_node.ensures, ap of_statements c.in-Some.ensures.items, statements-last c.pop.new.self.items c.in-Some.statement, c.loop-statement.invariant.sum);
  left = omega (arith, ap of_statements c.in-Some.ensures.items, statements-last c.pop.new.self.items c.in-Some.statement, c.loop-statement.invariant.left);
}
