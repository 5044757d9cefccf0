use Rattle.std.proofs.Common.{◌++◌, length, ◌∙◌}
use Rattle.tree_model.specs.Tree.{trees_of}
use Rattle.placed_nodes.specs.Placing.{placed, in_trees}
use Rattle.placed_nodes.proofs.Walking.{next-message}
use Rattle.placed_nodes.proofs.placed.+put.Goals as goal

pub put_messages-loop-message-preserved : goal.put_messages-loop-message-preserved
put_messages-loop-message-preserved t c =
    let first = c.loop-message.first in
    let same = c.loop-message.invariant.0 in
    let arguments = c.as_slice-arguments.ensures in
    let found = c.in_ok-put_nodes.ensures.found ∙ (λ j. placed c.loop-message.found.items ++ in_trees (same j) first (trees_of (arguments j))) in (
      c.in_ok-put_nodes.ensures.path ∙ same,
      next-message c.args.path.now.items c.args.messages.now c.loop-message.message-index first c.in-Some.next (length c.as_slice-arguments.result.now) c.message-item.result (placed c.loop-message.found.items) (placed c.put_nodes.new.found.items) _
          c.loop-message-test.true c.message-item.is c.in-Some.ensures.1 (λ j. length (arguments j)) found c.loop-message.invariant.1,
    )
