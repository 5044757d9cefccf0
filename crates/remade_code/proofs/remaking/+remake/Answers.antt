use Rattle.std.proofs.Common.{◌≡◌, ℕ, ◌+◌, List, length, get_or, sym, ap, ◌∙◌, arith, rules}
use Rattle.std.proofs.lemmas.Grind.{common_steps}
use Rattle.tree_model.specs.Tree.{TreeOf, trees_of}
use Rattle.st_tree.specs.View.{tree_of, statements_of}
use Rattle.st_tree.specs.Lending.{overwritten}
use Rattle.st_tree.specs.declared.tree.Message.{Message}
use Rattle.st_tree.specs.declared.tree.Statement.{Statement}
use Rattle.command_model.specs.Walk.{Making, onward, rebuilt, rebuilt_trees, rebuilt_statements}
use Rattle.remade_code.specs.Below.{below, rebuilt_below}
use Rattle.remade_code.proofs.Written.{overwritten-same, child-made, node-more, nodes-made, statement-more, statements-made, message-more, messages-made}
use Rattle.remade_code.proofs.remaking.+remake.Goals as goal

pub remake_child-returns-clause-tree : goal.remake_child-returns-clause-tree
remake_child-returns-clause-tree g t c =
    let f : Making ℕ = g.M.Making.making c.args.making.now in
    let q : List ℕ = c.push.new.self.items in
    let mid : TreeOf ℕ = tree_of c.remake_below.new.kind in
    let at : c.as_slice.result.now ≡ q = c.as_slice.ensures.value ∙ c.in_ok-remake_below.ensures.steps in
    child-made f c.args.steps.now.items q c.args.step c.args.node.now mid c.make.new.node (search rules)
    (c.in_ok-remake_below.ensures.tree ∙ ap (rebuilt_below (below q f)) c.node.view_is)
    (c.in_ok-make.ensures ∙ ap (λ (path : List ℕ). f path mid) at)

pub remake_nodes-loop-node-preserved : goal.remake_nodes-loop-node-preserved
remake_nodes-loop-node-preserved g t c =
    let l = c.loop-node in
    let f : Making ℕ = g.M.Making.making c.args.making.now in
    let made = c.in_ok-remake_child.ensures in
    record {
      unvisited = search (rules, common_steps);
      step = omega arith;
      steps = made.steps ∙ l.invariant.steps;
      made =
          node-more f c.args.steps.now.items c.args.nodes.now l.nodes l.steps.items c.node-item.result c.remake_child.new.node l.step l.node-index _ l.invariant.steps c.loop-node-test.true (omega (arith, l.invariant.unvisited.0))
          (c.node-item.is ∙ l.invariant.unvisited.1 l.node-index c.node-item.result (omega arith))
          (made.tree ∙ ap (rebuilt (onward l.step (below l.steps.items f))) (sym c.node-item.is)) l.invariant.made;
    }

pub remake_nodes-returns-clause-trees : goal.remake_nodes-returns-clause-trees
remake_nodes-returns-clause-trees g t c =
    let l = c.loop-node in
    nodes-made (g.M.Making.making c.args.making.now) c.args.steps.now.items c.args.nodes.now l.nodes l.step l.node-index _ c.loop-node-test.false (omega (arith, l.invariant.unvisited.0)) l.invariant.made

pub remake_messages-loop-message-preserved : goal.remake_messages-loop-message-preserved
remake_messages-loop-message-preserved g t c =
    let l = c.loop-message in
    let f : Making ℕ = g.M.Making.making c.args.making.now in
    let x : Message = c.message-item.result in
    let there : Message = get_or l.messages l.message-index x in
    let made = c.in_ok-remake_nodes.ensures in
    let next : c.in_ok-next.next ≡ l.step + length x.arguments = first_of (search rules, grind (arith, common_steps), cc) in
    let written : overwritten there.arguments c.remake_nodes.new.nodes ≡ c.remake_nodes.new.nodes = overwritten-same there.arguments c.remake_nodes.new.nodes (c.remake_nodes.auto.nodes ∙ ap (λ (ts : List (TreeOf ℕ)). length ts) c.as_mut_slice.ensures.value) in
    let lent : c.as_mut_slice.result.now ≡ x.arguments = c.as_mut_slice.ensures.value ∙ ap (λ (m : Message). m.arguments) (sym c.message-item.is) in
    record {
      unvisited = search (rules, common_steps);
      steps = made.steps ∙ l.invariant.steps;
      made =
          message-more f c.args.steps.now.items c.args.messages.now l.messages l.steps.items x (record there { arguments = overwritten there.arguments c.remake_nodes.new.nodes }) l.step c.in_ok-next.next l.message-index _
          l.invariant.steps c.loop-message-test.true (omega (arith, l.invariant.unvisited.0))
          (c.message-item.is ∙ l.invariant.unvisited.1 l.message-index x (omega arith)) next (ap (λ (m : Message). m.selector) (sym c.message-item.is))
          (ap (λ (ts : List (TreeOf ℕ)). trees_of ts) written ∙ made.trees ∙ ap (λ (ts : List (TreeOf ℕ)). rebuilt_trees (below l.steps.items f) l.step (trees_of ts)) lent) l.invariant.made;
    }

pub remake_messages-returns-clause-messages : goal.remake_messages-returns-clause-messages
remake_messages-returns-clause-messages g t c =
    let l = c.loop-message in
    messages-made (g.M.Making.making c.args.making.now) c.args.steps.now.items c.args.messages.now l.messages l.step l.message-index _ c.loop-message-test.false (omega (arith, l.invariant.unvisited.0)) l.invariant.made

pub remake_sequence-loop-statement-preserved : goal.remake_sequence-loop-statement-preserved
remake_sequence-loop-statement-preserved g t c =
    let l = c.loop-statement in
    let f : Making ℕ = g.M.Making.making c.args.making.now in
    let x : Statement = c.statement-item.result in
    let there : Statement = get_or l.statement-items l.statement-index x in
    let made = c.in_ok-remake_child.ensures in
    record {
      unvisited = search (rules, common_steps);
      step = omega arith;
      steps = made.steps ∙ l.invariant.steps;
      made =
          statement-more f c.args.steps.now.items c.as_mut_slice-statement-items.result.now l.statement-items l.steps.items x (record there { node = c.remake_child.new.node }) l.step l.statement-index _
          l.invariant.steps c.loop-statement-test.true (omega (arith, l.invariant.unvisited.0))
          (c.statement-item.is ∙ l.invariant.unvisited.1 l.statement-index x (omega arith)) (ap (λ (s : Statement). s.comments) (sym c.statement-item.is))
          (made.tree ∙ ap (λ (s : Statement). rebuilt (onward l.step (below l.steps.items f)) s.node) (sym c.statement-item.is)) l.invariant.made;
    }

pub remake_sequence-returns-clause-body : goal.remake_sequence-returns-clause-body
remake_sequence-returns-clause-body g t c =
    let l = c.loop-statement in
    let f : Making ℕ = g.M.Making.making c.args.making.now in
    let b = c.args.body.now in
    let lent : c.as_mut_slice-statement-items.result.now ≡ b.statements = c.as_mut_slice-statement-items.ensures.value in
    let written : overwritten b.statements l.statement-items ≡ l.statement-items = overwritten-same b.statements l.statement-items (l.auto.statement-items ∙ ap (λ (ss : List Statement). length ss) lent) in
    let all : statements_of l.statement-items ≡ rebuilt_statements (below c.args.steps.now.items f) 0 (statements_of c.as_mut_slice-statement-items.result.now) =
    statements-made f c.args.steps.now.items c.as_mut_slice-statement-items.result.now l.statement-items l.step l.statement-index _ c.loop-statement-test.false (omega (arith, l.invariant.unvisited.0)) l.invariant.made in
    let whole : statements_of (overwritten b.statements l.statement-items) ≡ rebuilt_statements (below c.args.steps.now.items f) 0 (statements_of b.statements) =
    ap (λ (ss : List Statement). statements_of ss) written ∙ all ∙ ap (λ (ss : List Statement). rebuilt_statements (below c.args.steps.now.items f) 0 (statements_of ss)) lent in
    λ i. record { temporaries = b.temporaries; statements = whole i; tail = b.tail }
