use Rattle.std.proofs.Common.{◌≡◌, ◌+◌, ◌*◌, drop, nat_le}
use Rattle.tree_model.specs.Tree.{trees_of}
use Rattle.tree_model.specs.Measure.{trees_height, messages_height, statements_height}
use Rattle.st_tree.specs.View.{messages_of, statements_of}
use Rattle.image_heights.proofs.levels.+levels.Given as goal

abbrev pub decreases-fits : goal.decreases-fits
decreases-fits l = 4 * l.left

abbrev pub decreases-all_fit : goal.decreases-all_fit
decreases-all_fit l = 4 * l.left + 1

abbrev pub decreases-messages_fit : goal.decreases-messages_fit
decreases-messages_fit l = 4 * l.left + 2

abbrev pub decreases-statements_fit : goal.decreases-statements_fit
decreases-statements_fit l = 4 * l.left + 1

abbrev pub invariant-all_fit-loop-node : goal.invariant-all_fit-loop-node
invariant-all_fit-loop-node l = nat_le (trees_height (trees_of (drop l.node-index l.nodes))) l.left ≡ nat_le (trees_height (trees_of l.nodes)) l.left

abbrev pub invariant-messages_fit-loop-message : goal.invariant-messages_fit-loop-message
invariant-messages_fit-loop-message l = nat_le (messages_height (messages_of (drop l.message-index l.messages))) l.left ≡ nat_le (messages_height (messages_of l.messages)) l.left

abbrev pub invariant-statements_fit-loop-statement : goal.invariant-statements_fit-loop-statement
invariant-statements_fit-loop-statement l = nat_le (statements_height (statements_of (drop l.statement-index l.statements))) l.left ≡ nat_le (statements_height (statements_of l.statements)) l.left
