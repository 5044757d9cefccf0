use Rattle.std.proofs.Common.{◌≡◌, ℕ, ◌+◌, ◌||◌, List, length, ◌∙◌, sym, ap, arith, rules}
use Rattle.std.proofs.lemmas.List.{at_drop_all}
use Rattle.std.proofs.lemmas.Grind.{common_steps}
use Rattle.tree_model.specs.Tree.{TreeOf, trees_of, more_trees}
use Rattle.st_tree.specs.View.{messages_of, statements_of}
use Rattle.st_tree.specs.declared.tree.Message.{Message}
use Rattle.st_tree.specs.declared.tree.Statement.{Statement}
use Rattle.renamed_code.specs.Renamings.{trees_after, messages_after, statements_after, is_in_trees}
use Rattle.renamed_code.proofs.Loops.{onto, put_message, put_statement, onto-trees, onto-messages, onto-statements, node-more, node-more_found, statement-more, statement-more_found, message-more, message-more_found}
use Rattle.renamed_code.proofs.anew.+anew.Goals as goal

pub nodes_anew-loop-node-preserved : goal.nodes_anew-loop-node-preserved
nodes_anew-loop-node-preserved t c =
    let l = c.loop-node in
    let made = c.in_ok-child_anew in
    record {
      step = omega arith;
      steps = made.ensures.steps ∙ l.invariant.steps;
      trees =
          node-more c.args.renaming.now c.args.walk.now.steps.items l.walk.steps.items l.invariant.steps l.list c.push.new.self c.args.nodes.now c.node-item.result made.field-0 l.step l.node-index _
          c.loop-node-test.true c.node-item.is c.in_ok-push.ensures.ok made.ensures.tree l.invariant.trees;
      found =
          node-more_found c.args.renaming.now c.args.walk.now.steps.items l.walk.steps.items l.invariant.steps l.walk.found c.child_anew.new.walk.found _ c.args.nodes.now c.node-item.result l.step l.node-index
          c.loop-node-test.true c.node-item.is made.ensures.found l.invariant.found;
    }

pub nodes_anew-returns-clause-trees : goal.nodes_anew-returns-clause-trees
nodes_anew-returns-clause-trees t c =
    let l = c.loop-node in
    sym (onto-trees l.list)
    ∙ sym (at_drop_all (λ (ts : List (TreeOf ℕ)). onto more_trees l.list (trees_after c.args.renaming.now c.args.walk.now.steps.items l.step (trees_of ts))) c.args.nodes.now l.node-index c.loop-node-test.false)
    ∙ l.invariant.trees

pub messages_anew-loop-message-preserved : goal.messages_anew-loop-message-preserved
messages_anew-loop-message-preserved t c =
    let l = c.loop-message in
    let m : Message = c.message-item.result in
    let next : c.in_ok-next.next ≡ l.step + length m.arguments = first_of (search rules, grind (arith, common_steps), cc) in
    let made = c.in_ok-arguments in
    let steps : c.selector_after-selector.new.walk.steps.items ≡ c.args.walk.now.steps.items = c.selector_after-selector.ensures.steps ∙ l.invariant.steps in
    record {
      steps = made.ensures.steps ∙ steps;
      messages =
          message-more c.args.renaming.now c.args.walk.now.steps.items c.selector_after-selector.new.walk.steps.items steps l.list c.push.new.self c.args.messages.now m
          (record { selector = c.selector_after-selector.result; arguments = made.arguments }) l.step c.in_ok-next.next l.message-index _
          c.loop-message-test.true c.message-item.is c.in_ok-push.ensures.ok next c.selector_after-selector.ensures.selector
          (made.ensures.trees ∙ ap (λ (ts : List (TreeOf ℕ)). trees_after c.args.renaming.now c.selector_after-selector.new.walk.steps.items l.step (trees_of ts)) c.as_slice.ensures) l.invariant.messages;
      found =
          message-more_found c.args.renaming.now c.args.walk.now.steps.items c.selector_after-selector.new.walk.steps.items steps l.walk.found c.selector_after-selector.new.walk.found c.nodes_anew.new.walk.found _ c.args.messages.now m l.step c.in_ok-next.next l.message-index
          c.loop-message-test.true c.message-item.is next c.selector_after-selector.ensures.found
          (made.ensures.found ∙ ap (λ (ts : List (TreeOf ℕ)). c.selector_after-selector.new.walk.found || is_in_trees c.args.renaming.now c.selector_after-selector.new.walk.steps.items l.step (trees_of ts)) c.as_slice.ensures) l.invariant.found;
    }

pub messages_anew-returns-clause-messages : goal.messages_anew-returns-clause-messages
messages_anew-returns-clause-messages t c =
    let l = c.loop-message in
    sym (onto-messages l.list)
    ∙ sym (at_drop_all (λ (ms : List Message). onto put_message l.list (messages_after c.args.renaming.now c.args.walk.now.steps.items l.step (messages_of ms))) c.args.messages.now l.message-index c.loop-message-test.false)
    ∙ l.invariant.messages

pub statements_anew-loop-statement-preserved : goal.statements_anew-loop-statement-preserved
statements_anew-loop-statement-preserved t c =
    let l = c.loop-statement in
    let made = c.in_ok-node in
    let s : Statement = c.statement-item.result in
    record {
      step = omega arith;
      steps = made.ensures.steps ∙ l.invariant.steps;
      statements =
          statement-more c.args.renaming.now c.args.walk.now.steps.items l.walk.steps.items l.invariant.steps l.list c.push.new.self c.args.statements.now s
          (record { comments = c.in_ok-comments.comments; node = made.node }) l.step l.statement-index _
          c.loop-statement-test.true c.statement-item.is c.in_ok-push.ensures.ok c.in_ok-comments.ensures made.ensures.tree l.invariant.statements;
      found =
          statement-more_found c.args.renaming.now c.args.walk.now.steps.items l.walk.steps.items l.invariant.steps l.walk.found c.child_anew.new.walk.found _ c.args.statements.now s l.step l.statement-index
          c.loop-statement-test.true c.statement-item.is made.ensures.found l.invariant.found;
    }

pub statements_anew-returns-clause-statements : goal.statements_anew-returns-clause-statements
statements_anew-returns-clause-statements t c =
    let l = c.loop-statement in
    sym (onto-statements l.list)
    ∙ sym (at_drop_all (λ (ss : List Statement). onto put_statement l.list (statements_after c.args.renaming.now c.args.walk.now.steps.items l.step (statements_of ss))) c.args.statements.now l.statement-index c.loop-statement-test.false)
    ∙ l.invariant.statements
