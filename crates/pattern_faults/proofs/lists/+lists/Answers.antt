use Rattle.std.proofs.Common.{◌≡◌, ℕ, ◌+◌, ◌&&◌, ◌||◌, Bool, false, List, drop, sym, ap, ◌∙◌, arith, rules}
use Rattle.std.proofs.lemmas.Grind.{common_steps}
use Rattle.rb_base.specs.Names.{name_at}
use Rattle.tree_model.specs.Tree.{TreeOf, send, cascade, trees_of}
use Rattle.st_tree.specs.View.{tree_of, messages_of, statements_of}
use Rattle.st_tree.specs.declared.tree.Statement.{Statement}
use Rattle.pattern_faults.specs.Lists.{spells_list, state_of, is_list, walked, trees_walked, messages_walked, statements_walked}
use Rattle.pattern_faults.proofs.SecondLists.{second_yes, second_no, later_yes, later_no, statements_next}
use Rattle.pattern_faults.proofs.lists.+lists.Goals as goal
use Rattle.pattern_faults.proofs.lists.+lists.Goals.{walk_statements-then-had, walk_statements-else-had, walk_statements-then-had-2, walk_statements-else-had-2}

pub walk_node-returns-in-Send : goal.walk_node-returns-in-Send
walk_node-returns-in-Send t c =
    let lists : ℕ → Bool = λ n. spells_list (name_at c.args.names.now n) in
    let node : c.args.node.now ≡ send c.in-Send.receiver.value c.in-Send.selector (trees_of c.in-Send.arguments) = sym c.node.view_is ∙ ap tree_of c.in-Send.is in
    let receiver : c.deref.result.now ≡ c.in-Send.receiver.value = first_of (search rules, cc, grind (arith, common_steps)) in
    c.walk_nodes.ensures
    ∙ (λ i. trees_walked lists (trees_of (c.as_slice.ensures i)) ((c.walk_node.ensures ∙ (λ j. walked lists false (receiver j) (c.pass.ensures j))) i))
    ∙ sym (ap (λ (n : TreeOf ℕ). walked lists c.args.second n (state_of c.args.search.now)) node)

pub walk_node-returns-in-Cascade : goal.walk_node-returns-in-Cascade
walk_node-returns-in-Cascade t c =
    let lists : ℕ → Bool = λ n. spells_list (name_at c.args.names.now n) in
    let node : c.args.node.now ≡ cascade c.in-Cascade.receiver.value (messages_of c.in-Cascade.messages) = sym c.node.view_is ∙ ap tree_of c.in-Cascade.is in
    let receiver : c.deref-in-Cascade.result.now ≡ c.in-Cascade.receiver.value = first_of (search rules, cc, grind (arith, common_steps)) in
    c.walk_messages.ensures
    ∙ (λ i. messages_walked lists (messages_of (c.as_slice-in-Cascade.ensures i)) ((c.walk_node-in-Cascade.ensures ∙ (λ j. walked lists false (receiver j) (c.pass.ensures j))) i))
    ∙ sym (ap (λ (n : TreeOf ℕ). walked lists c.args.second n (state_of c.args.search.now)) node)

pub walk_statements-loop-statement-preserved : goal.walk_statements-loop-statement-preserved
walk_statements-loop-statement-preserved t c =
    let l = c.loop-statement in
    let s : Statement = c.statement-item.result in
    let ss : List Statement = c.args.statements.now in
    let lists : ℕ → Bool = λ n. spells_list (name_at c.args.names.now n) in
    let here : c.is_list-is_list.result ≡ is_list lists s.node = c.is_list-is_list.ensures in
    let second : c.if-had.walk_node ≡ (l.had && c.is_list-is_list.result) =
    elim c.if-had.branch [
      | walk_statements-then-had w ↦ first_of (search (rules, second_yes), grind (arith, second_yes), cc)
      | walk_statements-else-had w ↦ first_of (search (rules, second_no), grind (arith, second_no), cc)
    ] in
    let later : c.if-had-2.had ≡ (l.had || c.is_list-is_list.result) =
    elim c.if-had-2.branch [
      | walk_statements-then-had-2 w ↦ first_of (search (rules, later_yes), grind (arith, later_yes), cc)
      | walk_statements-else-had-2 w ↦ first_of (search (rules, later_no), grind (arith, later_no), cc)
    ] in
    (λ i. statements_walked lists ((later ∙ ap (λ b. l.had || b) here) i) (statements_of (drop (l.statement-index + 1) ss)) ((c.walk_node.ensures ∙ (λ j. walked lists ((second ∙ ap (λ b. l.had && b) here) j) s.node (state_of l.search))) i))
    ∙ sym (statements_next lists l.had ss l.statement-index s (state_of l.search) c.loop-statement-test.true c.statement-item.is)
    ∙ l.invariant
