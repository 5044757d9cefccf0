use Rattle.std.proofs.Common.{◌≡◌, ℕ, ◌+◌, List, length, map, drop, true, option_map, refl, sym, ap, subst, ◌∙◌, arith, rules}
use Rattle.std.specs.Prelude.{Option, IfOk}
use Rattle.std.proofs.lemmas.Grind.{common_steps}
use Rattle.tree_model.specs.Tree.{TreeOf, trees_of}
use Rattle.st_tree.specs.View.{messages_of, statements_of}
use Rattle.st_tree.specs.declared.tree.Message.{Message}
use Rattle.st_tree.specs.declared.tree.Statement.{Statement}
use Rattle.pattern_model.specs.Patterns.{PatternOf, StatementsLike}
use Rattle.pattern_model.specs.Bindings.{a_run}
use Rattle.pattern_model.specs.Words.{PatternWordsOf}
use Rattle.pattern_model.specs.MatchTree.{FoundOf, placed, numbered_statements, both, deeper, keyword_places, message_places, places, trees_places, places_in_turn, messages_places, statements_places}
use Rattle.patterns.specs.View.{meta_of, keyword_of, selector_of, patterns_of, messages_from, statements_from}
use Rattle.patterns.specs.declared.tree.PatternMessage.{PatternMessage}
use Rattle.patterns.specs.declared.tree.PatternStatement.{PatternStatement}
use Rattle.patterns.proofs.Weights.{weight-pattern, weight-message_like, weight-statement_like}
use Rattle.pattern_match.specs.Words.{number_words}
use Rattle.pattern_match.specs.Gathering.{State, place_of, state_of, reached, gathered}
use Rattle.pattern_match.proofs.Gathered.{go_on, stop, child, popped, goes_on, stops, finishes}
use Rattle.pattern_match.proofs.Walked.{trees_next, trees_short, trees_end, trees_left, turn_next, AsLong, keywords_apart, one_message, messages_next, messages_short, messages_end, messages_left, statements_run, statements_one, statements_end, statements_left}
use Rattle.pattern_match.proofs.walk.+places.Goals as goal
use Rattle.pattern_match.proofs.walk.+places.Goals.{statements_places-in-Some+in_ok-put_run-in-Some+in_ok-step-in-Some, statements_places-in-None+in-Some-split_first+in_ok-child_places-in-None+else-not-branch+in_ok-step-in-None, message_places-then-len-count-via-then-len-count, message_places-then-len-count-via-else-len-count+then-patterns-count, message_places-then-len-count-via-else-len-count+else-patterns-count+then-len-count-2}

pub child_places-returns : goal.child_places-returns
child_places-returns t c =
    child c.args.walk.now.steps.items c.push.new.self.items c.node_places.new.walk.steps.items c.pop.new.self.items (map place_of c.args.walk.now.found.items) (map place_of c.node_places.new.walk.found.items)
    c.args.step c.in_ok-fits.fits (places (number_words c.args.names.now) c.args.pattern.now c.args.node.now) (search rules)
    (popped c.pop.new.self.items c.node_places.new.walk.steps.items c.args.walk.now.steps.items c.args.step (search rules)) c.in_ok-fits.ensures

pub send_places-returns-then-fits : goal.send_places-returns-then-fits
send_places-returns-then-fits t c =
    let w : PatternWordsOf ℕ = number_words c.args.names.now in
    subst (λ (o : Option State). IfOk c.message_places.result (λ fits. reached fits (state_of c.message_places.new.walk) ≡ o))
    (go_on (state_of c.args.walk.now) (state_of c.child_places.new.walk) (deeper 0 (places w c.args.receiver.now c.args.node.now))
    (message_places w 1 (selector_of c.args.message.now.selector) c.args.selector (trees_of c.args.arguments.now) (trees_places w 1 (patterns_of c.args.message.now.arguments.items) (trees_of c.args.arguments.now)) (places_in_turn w 1 (patterns_of c.args.message.now.arguments.items) (trees_of c.args.arguments.now)))
    (ap (λ b. reached b (state_of c.child_places.new.walk)) (sym c.if-fits.true) ∙ c.in_ok-fits.ensures))
    c.message_places.ensures

pub send_places-returns-else-fits : goal.send_places-returns-else-fits
send_places-returns-else-fits t c =
    stop (state_of c.args.walk.now) (state_of c.child_places.new.walk) (deeper 0 (places (number_words c.args.names.now) c.args.receiver.now c.args.node.now)) _
    (ap (λ b. reached b (state_of c.child_places.new.walk)) (sym c.if-fits.false) ∙ c.in_ok-fits.ensures)

pub cascade_places-returns-then-fits : goal.cascade_places-returns-then-fits
cascade_places-returns-then-fits t c =
    let w : PatternWordsOf ℕ = number_words c.args.names.now in
    subst (λ (o : Option State). IfOk c.messages_places.result (λ fits. reached fits (state_of c.messages_places.new.walk) ≡ o))
    (go_on (state_of c.args.walk.now) (state_of c.child_places.new.walk) (deeper 0 (places w c.args.receiver.now c.args.node.now)) (messages_places w 1 (messages_from c.args.patterns.now) (messages_of c.args.messages.now))
    (ap (λ b. reached b (state_of c.child_places.new.walk)) (sym c.if-fits.true) ∙ c.in_ok-fits.ensures))
    c.messages_places.ensures

pub cascade_places-returns-else-fits : goal.cascade_places-returns-else-fits
cascade_places-returns-else-fits t c =
    stop (state_of c.args.walk.now) (state_of c.child_places.new.walk) (deeper 0 (places (number_words c.args.names.now) c.args.receiver.now c.args.node.now)) _
    (ap (λ b. reached b (state_of c.child_places.new.walk)) (sym c.if-fits.false) ∙ c.in_ok-fits.ensures)

pub nodes_places-returns-in_default : goal.nodes_places-returns-in_default
nodes_places-returns-in_default t c =
    let l = c.loop-pattern in
    sym (ap (gathered (state_of l.walk)) (trees_short (number_words c.args.names.now) c.args.patterns.now l.step l.pattern-index c.pattern-item.result l.rest.now c.loop-pattern-test.true c.pattern-item.is (rw c.in_default.is at c.split_first.ensures.cases)))
    ∙ l.invariant

pub nodes_places-child_places-requires : goal.nodes_places-child_places-requires
nodes_places-child_places-requires t c = (omega (arith, weight-pattern c.args.patterns.now c.loop-pattern.pattern-index c.pattern-item.result c.loop-pattern-test.true c.pattern-item.is), tt)

pub nodes_places-loop-pattern-preserved : goal.nodes_places-loop-pattern-preserved
nodes_places-loop-pattern-preserved t c =
    let l = c.loop-pattern in
    let w : PatternWordsOf ℕ = number_words c.args.names.now in
    let rest : List (PatternOf ℕ) = drop (l.pattern-index + 1) c.args.patterns.now in
    let others : List (TreeOf ℕ) = c.in-Some.others.now in
    let next : c.in_ok-step.step ≡ l.step + 1 = c.in_ok-step.ensures in
    ap (λ k. gathered (state_of c.child_places.new.walk) (trees_places w k (patterns_of rest) (trees_of others))) next
    ∙ goes_on (state_of l.walk) (trees_places w l.step (patterns_of (drop l.pattern-index c.args.patterns.now)) (trees_of l.rest.now)) _ l.invariant
    c.in_ok-child_places.field-0 (state_of c.child_places.new.walk) (deeper l.step (places w c.pattern-item.result c.in-Some.node.now)) (trees_places w (l.step + 1) (patterns_of rest) (trees_of others))
    (trees_next w c.args.patterns.now l.step l.pattern-index c.pattern-item.result l.rest.now others c.in-Some.node.now c.loop-pattern-test.true (search rules) (search rules)) c.if-not-branch.false c.in_ok-child_places.ensures

pub nodes_places-returns-then-not-branch : goal.nodes_places-returns-then-not-branch
nodes_places-returns-then-not-branch t c =
    let l = c.loop-pattern in
    let w : PatternWordsOf ℕ = number_words c.args.names.now in
    stops (state_of l.walk) (trees_places w l.step (patterns_of (drop l.pattern-index c.args.patterns.now)) (trees_of l.rest.now)) _ l.invariant
    c.in_ok-child_places.field-0 (state_of c.child_places.new.walk) (deeper l.step (places w c.pattern-item.result c.in-Some.node.now)) (trees_places w (l.step + 1) (patterns_of (drop (l.pattern-index + 1) c.args.patterns.now)) (trees_of c.in-Some.others.now))
    (trees_next w c.args.patterns.now l.step l.pattern-index c.pattern-item.result l.rest.now c.in-Some.others.now c.in-Some.node.now c.loop-pattern-test.true (search rules) (search rules)) c.if-not-branch.true c.in_ok-child_places.ensures

pub nodes_places-returns : goal.nodes_places-returns
nodes_places-returns t c =
    let l = c.loop-pattern in
    let w : PatternWordsOf ℕ = number_words c.args.names.now in
    finishes (state_of l.walk) (trees_places w l.step (patterns_of (drop l.pattern-index c.args.patterns.now)) (trees_of l.rest.now)) _ l.invariant
    c.is_empty.result (length l.rest.now) c.is_empty.ensures
    (trees_end w c.args.patterns.now l.step l.pattern-index l.rest.now c.loop-pattern-test.false) (trees_left w c.args.patterns.now l.step l.pattern-index l.rest.now c.loop-pattern-test.false)

pub places_in_turn-child_places-requires : goal.places_in_turn-child_places-requires
places_in_turn-child_places-requires t c = (omega (arith, weight-pattern c.args.patterns.now c.loop-node.at c.index-patterns-at.result (omega arith) c.index-patterns-at.is), tt)

pub places_in_turn-loop-node-preserved : goal.places_in_turn-loop-node-preserved
places_in_turn-loop-node-preserved t c =
    let l = c.loop-node in
    let w : PatternWordsOf ℕ = number_words c.args.names.now in
    let i : ℕ = l.node-index in
    let here : FoundOf ℕ = keyword_places (keyword_of c.index-keywords-at.result) c.index-texts-at.result in
    let below : FoundOf ℕ = deeper l.step (places w c.index-patterns-at.result c.node-item.result) in
    let rest : ℕ → FoundOf ℕ = λ k. places_in_turn w k (patterns_of (drop (i + 1) c.args.patterns.now)) (trees_of (drop (i + 1) c.args.nodes.now)) (map keyword_of (drop (i + 1) c.args.keywords.now)) (drop (i + 1) c.args.texts.now) in
    let cut =
    turn_next w c.args.patterns.now c.args.nodes.now c.args.keywords.now c.args.texts.now c.index-patterns-at.result c.node-item.result c.index-keywords-at.result c.index-texts-at.result l.step i
    (omega arith) (first_of (search rules, grind (arith, common_steps), cc)) c.loop-node-test.true (search rules) (omega arith) (first_of (search rules, grind (arith, common_steps), cc)) (omega arith) (first_of (search rules, grind (arith, common_steps), cc)) in
    let between = goes_on (state_of l.walk) _ _ l.invariant.so_far c.in_ok-keyword_places.field-0 (state_of c.keyword_places.new.walk) here (both below (rest (l.step + 1))) cut c.if-not-branch.false c.in_ok-keyword_places.ensures in
    let next : c.in_ok-step.step ≡ l.step + 1 = c.in_ok-step.ensures in
    record {
      at = omega arith;
      so_far =
          ap (λ k. gathered (state_of c.child_places.new.walk) (rest k)) next
          ∙ goes_on (state_of c.keyword_places.new.walk) (both below (rest (l.step + 1))) _ between c.in_ok-child_places.field-0 (state_of c.child_places.new.walk) below (rest (l.step + 1)) (λ _. both below (rest (l.step + 1))) c.if-not-branch-2.false c.in_ok-child_places.ensures;
    }

pub places_in_turn-returns-then-not-branch-2 : goal.places_in_turn-returns-then-not-branch-2
places_in_turn-returns-then-not-branch-2 t c =
    let l = c.loop-node in
    let w : PatternWordsOf ℕ = number_words c.args.names.now in
    let i : ℕ = l.node-index in
    let here : FoundOf ℕ = keyword_places (keyword_of c.index-keywords-at.result) c.index-texts-at.result in
    let below : FoundOf ℕ = deeper l.step (places w c.index-patterns-at.result c.node-item.result) in
    let rest : FoundOf ℕ = places_in_turn w (l.step + 1) (patterns_of (drop (i + 1) c.args.patterns.now)) (trees_of (drop (i + 1) c.args.nodes.now)) (map keyword_of (drop (i + 1) c.args.keywords.now)) (drop (i + 1) c.args.texts.now) in
    let cut =
    turn_next w c.args.patterns.now c.args.nodes.now c.args.keywords.now c.args.texts.now c.index-patterns-at.result c.node-item.result c.index-keywords-at.result c.index-texts-at.result l.step i
    (omega arith) (first_of (search rules, grind (arith, common_steps), cc)) c.loop-node-test.true (search rules) (omega arith) (first_of (search rules, grind (arith, common_steps), cc)) (omega arith) (first_of (search rules, grind (arith, common_steps), cc)) in
    let between = goes_on (state_of l.walk) _ _ l.invariant.so_far c.in_ok-keyword_places.field-0 (state_of c.keyword_places.new.walk) here (both below rest) cut c.if-not-branch.false c.in_ok-keyword_places.ensures in
    stops (state_of c.keyword_places.new.walk) (both below rest) _ between c.in_ok-child_places.field-0 (state_of c.child_places.new.walk) below rest (λ _. both below rest) c.if-not-branch-2.true c.in_ok-child_places.ensures

pub message_places-returns-then-len-count : goal.message_places-returns-then-len-count
message_places-returns-then-len-count t c =
    let w : PatternWordsOf ℕ = number_words c.args.names.now in
    let m = c.args.message.now in
    let apart : AsLong w m.arguments.items c.args.arguments.now c.in-Keywords.keywords.items c.in-Some.texts.items → ⊥ =
    elim c.then-len-count.branch [
      | message_places-then-len-count-via-then-len-count v ↦ (λ h. first_of (omega (arith, h.0), grind (arith, h.0), search (rules, h.0)))
      | message_places-then-len-count-via-else-len-count+then-patterns-count v ↦ (λ h. first_of (omega (arith, h.1), grind (arith, h.1), search (rules, h.1)))
      | message_places-then-len-count-via-else-len-count+else-patterns-count+then-len-count-2 v ↦ (λ h. first_of (omega (arith, h.2), grind (arith, h.2), search (rules, h.2)))
    ] in
    ap (gathered (state_of c.args.walk.now))
    (sym (keywords_apart w (selector_of m.selector) c.in-Keywords.keywords.items c.args.selector m.arguments.items c.args.arguments.now c.in-Some.texts.items c.args.first (first_of (search rules, cc)) (first_of (search rules, cc)) apart))

pub messages_places-returns-in_default : goal.messages_places-returns-in_default
messages_places-returns-in_default t c =
    let l = c.loop-pattern in
    sym (ap (gathered (state_of l.walk)) (messages_short (number_words c.args.names.now) c.args.patterns.now l.step l.pattern-index c.pattern-item.result l.rest.now c.loop-pattern-test.true c.pattern-item.is (rw c.in_default.is at c.split_first.ensures.cases)))
    ∙ l.invariant

pub messages_places-message_places-requires : goal.messages_places-message_places-requires
messages_places-message_places-requires t c = (omega (arith, weight-message_like c.args.patterns.now c.loop-pattern.pattern-index c.pattern-item.result c.loop-pattern-test.true c.pattern-item.is), tt)

pub messages_places-loop-pattern-preserved : goal.messages_places-loop-pattern-preserved
messages_places-loop-pattern-preserved t c =
    let l = c.loop-pattern in
    let w : PatternWordsOf ℕ = number_words c.args.names.now in
    let p : PatternMessage = c.pattern-item.result in
    let m : Message = c.in-Some.message.now in
    let next : c.in_ok-next.next ≡ l.step + length m.arguments = first_of (search rules, grind (arith, common_steps), cc) in
    goes_on (state_of l.walk) (messages_places w l.step (messages_from (drop l.pattern-index c.args.patterns.now)) (messages_of l.rest.now)) _ l.invariant
    c.in_ok-message_places.field-0 (state_of c.message_places.new.walk) (one_message w l.step p m) (messages_places w c.in_ok-next.next (messages_from (drop (l.pattern-index + 1) c.args.patterns.now)) (messages_of c.in-Some.others.now))
    (messages_next w c.args.patterns.now l.step l.pattern-index p l.rest.now c.in-Some.others.now m c.in_ok-next.next c.loop-pattern-test.true (search rules) (search rules) next) c.if-not-branch.false
    (c.in_ok-message_places.ensures
    ∙ ap (λ (ts : List (TreeOf ℕ)). gathered (state_of l.walk) (message_places w l.step (selector_of p.selector) m.selector (trees_of ts) (trees_places w l.step (patterns_of p.arguments.items) (trees_of ts)) (places_in_turn w l.step (patterns_of p.arguments.items) (trees_of ts)))) c.as_slice-arguments.ensures)

pub messages_places-returns-then-not-branch : goal.messages_places-returns-then-not-branch
messages_places-returns-then-not-branch t c =
    let l = c.loop-pattern in
    let w : PatternWordsOf ℕ = number_words c.args.names.now in
    let p : PatternMessage = c.pattern-item.result in
    let m : Message = c.in-Some.message.now in
    let next : c.in_ok-next.next ≡ l.step + length m.arguments = first_of (search rules, grind (arith, common_steps), cc) in
    stops (state_of l.walk) (messages_places w l.step (messages_from (drop l.pattern-index c.args.patterns.now)) (messages_of l.rest.now)) _ l.invariant
    c.in_ok-message_places.field-0 (state_of c.message_places.new.walk) (one_message w l.step p m) (messages_places w c.in_ok-next.next (messages_from (drop (l.pattern-index + 1) c.args.patterns.now)) (messages_of c.in-Some.others.now))
    (messages_next w c.args.patterns.now l.step l.pattern-index p l.rest.now c.in-Some.others.now m c.in_ok-next.next c.loop-pattern-test.true (search rules) (search rules) next) c.if-not-branch.true
    (c.in_ok-message_places.ensures
    ∙ ap (λ (ts : List (TreeOf ℕ)). gathered (state_of l.walk) (message_places w l.step (selector_of p.selector) m.selector (trees_of ts) (trees_places w l.step (patterns_of p.arguments.items) (trees_of ts)) (places_in_turn w l.step (patterns_of p.arguments.items) (trees_of ts)))) c.as_slice-arguments.ensures)

pub messages_places-returns : goal.messages_places-returns
messages_places-returns t c =
    let l = c.loop-pattern in
    let w : PatternWordsOf ℕ = number_words c.args.names.now in
    finishes (state_of l.walk) (messages_places w l.step (messages_from (drop l.pattern-index c.args.patterns.now)) (messages_of l.rest.now)) _ l.invariant
    c.is_empty.result (length l.rest.now) c.is_empty.ensures
    (messages_end w c.args.patterns.now l.step l.pattern-index l.rest.now c.loop-pattern-test.false) (messages_left w c.args.patterns.now l.step l.pattern-index l.rest.now c.loop-pattern-test.false)

pub statements_places-returns-then-not-branch : goal.statements_places-returns-then-not-branch
statements_places-returns-then-not-branch t c =
    let l = c.loop-pattern in
    let w : PatternWordsOf ℕ = number_words c.args.names.now in
    let p : PatternStatement = c.pattern-item.result in
    let r : Statement = c.in-Some-split_first.statement.now in
    let others : List Statement = c.in-Some-split_first.others.now in
    stops (state_of l.walk) (statements_places w l.step (statements_from (drop l.pattern-index c.args.patterns.now)) (statements_of l.rest.now)) _ l.invariant.so_far
    c.in_ok-child_places-in-None.field-0 (state_of c.child_places.new.walk) (deeper l.step (places w p.node r.node)) (statements_places w (l.step + 1) (statements_from (drop (l.pattern-index + 1) c.args.patterns.now)) (statements_of others))
    (statements_one w c.args.patterns.now l.step l.pattern-index p l.rest.now others r c.loop-pattern-test.true c.pattern-item.is (ap (option_map meta_of) (sym c.in-None.is) ∙ c.list_meta.ensures) (search rules))
    c.if-not-branch.true c.in_ok-child_places-in-None.ensures

pub statements_places-loop-pattern-preserved : goal.statements_places-loop-pattern-preserved
statements_places-loop-pattern-preserved t c =
    let l = c.loop-pattern in
    let w : PatternWordsOf ℕ = number_words c.args.names.now in
    let p : PatternStatement = c.pattern-item.result in
    let ss : StatementsLike ℕ = statements_from (drop (l.pattern-index + 1) c.args.patterns.now) in
    record {
      later = omega (arith, c.saturating_sub-later.ensures, l.invariant.later);
      so_far =
          elim c.match-list_meta.branch [
            | statements_places-in-Some+in_ok-put_run-in-Some+in_ok-step-in-Some v ↦
                (let run : List Statement = v.split_at.result.0.now in
                let others : List Statement = v.split_at.result.1.now in
                let n : ℕ = v.saturating_sub.result in
                let next : v.in_ok-step-in-Some.step ≡ l.step + length run = first_of (search rules, grind (arith, common_steps), cc) in
                (λ j. gathered (state_of (v.walk-is j)) (statements_places w (v.step-is j) ss (statements_of (v.rest-is j).now)))
                ∙ goes_on (state_of l.walk) (statements_places w l.step (statements_from (drop l.pattern-index c.args.patterns.now)) (statements_of l.rest.now)) _ l.invariant.so_far
                true (state_of v.put_run.new.walk) (placed (meta_of v.in-Some.meta) (a_run (statements_of run)) (numbered_statements l.step (statements_of run))) (statements_places w v.in_ok-step-in-Some.step ss (statements_of others))
                (statements_run w c.args.patterns.now l.step l.pattern-index p (meta_of v.in-Some.meta) l.rest.now run others n v.in_ok-step-in-Some.step c.loop-pattern-test.true c.pattern-item.is
                (ap (option_map meta_of) (sym v.in-Some.is) ∙ c.list_meta.ensures) (first_of (omega (arith, v.saturating_sub.ensures, c.saturating_sub-later.ensures, l.invariant.later), grind (arith, common_steps)))
                v.split_at.ensures.front v.split_at.ensures.back (omega (arith, next, v.split_at.ensures.front_len)))
                refl v.in_ok-put_run-in-Some.ensures)
            | statements_places-in-None+in-Some-split_first+in_ok-child_places-in-None+else-not-branch+in_ok-step-in-None v ↦
                (let r : Statement = v.in-Some-split_first.statement.now in
                let others : List Statement = v.in-Some-split_first.others.now in
                let next : v.in_ok-step-in-None.step ≡ l.step + 1 = v.in_ok-step-in-None.ensures in
                (λ j. gathered (state_of (v.walk-is j)) (statements_places w (v.step-is j) ss (statements_of (v.rest-is j).now)))
                ∙ ap (λ k. gathered (state_of v.child_places.new.walk) (statements_places w k ss (statements_of others))) next
                ∙ goes_on (state_of l.walk) (statements_places w l.step (statements_from (drop l.pattern-index c.args.patterns.now)) (statements_of l.rest.now)) _ l.invariant.so_far
                v.in_ok-child_places-in-None.field-0 (state_of v.child_places.new.walk) (deeper l.step (places w p.node r.node)) (statements_places w (l.step + 1) ss (statements_of others))
                (statements_one w c.args.patterns.now l.step l.pattern-index p l.rest.now others r c.loop-pattern-test.true c.pattern-item.is (ap (option_map meta_of) (sym v.in-None.is) ∙ c.list_meta.ensures) (search rules))
                v.if-not-branch.false v.in_ok-child_places-in-None.ensures)
          ];
    }

pub statements_places-child_places-requires : goal.statements_places-child_places-requires
statements_places-child_places-requires t c = (omega (arith, weight-statement_like c.args.patterns.now c.loop-pattern.pattern-index c.pattern-item.result c.loop-pattern-test.true c.pattern-item.is), tt)

pub statements_places-returns : goal.statements_places-returns
statements_places-returns t c =
    let l = c.loop-pattern in
    let w : PatternWordsOf ℕ = number_words c.args.names.now in
    finishes (state_of l.walk) (statements_places w l.step (statements_from (drop l.pattern-index c.args.patterns.now)) (statements_of l.rest.now)) _ l.invariant.so_far
    c.is_empty.result (length l.rest.now) c.is_empty.ensures
    (statements_end w c.args.patterns.now l.step l.pattern-index l.rest.now c.loop-pattern-test.false) (statements_left w c.args.patterns.now l.step l.pattern-index l.rest.now c.loop-pattern-test.false)
