use Rattle.std.proofs.Common.{◌≡◌, ◌+◌, ◌-◌, ◌*◌, length, drop, map}
use Rattle.tree_model.specs.Tree.{trees_of}
use Rattle.st_tree.specs.View.{messages_of, statements_of}
use Rattle.pattern_model.specs.MatchTree.{trees_places, places_in_turn, messages_places, statements_places}
use Rattle.patterns.specs.View.{keyword_of}
use Rattle.pattern_match.specs.Words.{number_words}
use Rattle.pattern_match.specs.Gathering.{state_of, gathered}
use Rattle.patterns.specs.View.{patterns_of, messages_from, statements_from}
use Rattle.patterns.specs.Weights.{pattern_weight, patterns_weight, messages_like_weight, statements_like_weight}
use Rattle.pattern_match.proofs.walk.+places.Given as goal

abbrev pub decreases-node_places : goal.decreases-node_places
decreases-node_places l = 3 * pattern_weight l.pattern.now

abbrev pub decreases-send_places : goal.decreases-send_places
decreases-send_places l = 3 * (pattern_weight l.receiver.now + patterns_weight (patterns_of l.message.now.arguments.items)) + 2

abbrev pub decreases-cascade_places : goal.decreases-cascade_places
decreases-cascade_places l = 3 * (pattern_weight l.receiver.now + messages_like_weight (messages_from l.patterns.now)) + 2

abbrev pub decreases-child_places : goal.decreases-child_places
decreases-child_places l = 3 * pattern_weight l.pattern.now + 1

abbrev pub decreases-nodes_places : goal.decreases-nodes_places
decreases-nodes_places l = 3 * patterns_weight (patterns_of l.patterns.now)

abbrev pub decreases-places_in_turn : goal.decreases-places_in_turn
decreases-places_in_turn l = 3 * patterns_weight (patterns_of l.patterns.now)

abbrev pub decreases-message_places : goal.decreases-message_places
decreases-message_places l = 3 * patterns_weight (patterns_of l.message.now.arguments.items) + 1

abbrev pub decreases-messages_places : goal.decreases-messages_places
decreases-messages_places l = 3 * messages_like_weight (messages_from l.patterns.now)

abbrev pub decreases-statements_places : goal.decreases-statements_places
decreases-statements_places l = 3 * statements_like_weight (statements_from l.patterns.now)

abbrev pub invariant-nodes_places-loop-pattern : goal.invariant-nodes_places-loop-pattern
invariant-nodes_places-loop-pattern l =
    gathered (state_of l.walk) (trees_places (number_words l.names) l.step (patterns_of (drop l.pattern-index l.patterns)) (trees_of l.rest))
    ≡ gathered (state_of l.initial.walk) (trees_places (number_words l.names) l.first (patterns_of l.patterns) (trees_of l.nodes))

abbrev pub invariant-places_in_turn-loop-node : goal.invariant-places_in_turn-loop-node
invariant-places_in_turn-loop-node l = record {
  at : l.at ≡ l.node-index;
  so_far :
      gathered (state_of l.walk) (places_in_turn (number_words l.names) l.step (patterns_of (drop l.node-index l.patterns)) (trees_of (drop l.node-index l.nodes)) (map keyword_of (drop l.node-index l.keywords)) (drop l.node-index l.texts))
      ≡ gathered (state_of l.initial.walk) (places_in_turn (number_words l.names) l.first (patterns_of l.patterns) (trees_of l.nodes) (map keyword_of l.keywords) l.texts);
}

abbrev pub invariant-messages_places-loop-pattern : goal.invariant-messages_places-loop-pattern
invariant-messages_places-loop-pattern l =
    gathered (state_of l.walk) (messages_places (number_words l.names) l.step (messages_from (drop l.pattern-index l.patterns)) (messages_of l.rest))
    ≡ gathered (state_of l.initial.walk) (messages_places (number_words l.names) 1 (messages_from l.patterns) (messages_of l.messages))

abbrev pub invariant-statements_places-loop-pattern : goal.invariant-statements_places-loop-pattern
invariant-statements_places-loop-pattern l = record {
  later : l.later ≡ length l.patterns - l.pattern-index;
  so_far :
      gathered (state_of l.walk) (statements_places (number_words l.names) l.step (statements_from (drop l.pattern-index l.patterns)) (statements_of l.rest))
      ≡ gathered (state_of l.initial.walk) (statements_places (number_words l.names) 0 (statements_from l.patterns) (statements_of l.statements));
}
