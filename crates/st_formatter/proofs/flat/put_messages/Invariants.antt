use Rattle.std.proofs.Common.{◌≡◌, ◌+◌, ◌≤◌, ◌&&◌, drop}
use Rattle.tree_model.specs.Measure.{trees_weight, messages_weight}
use Rattle.st_tree.specs.View.{messages_of}
use Rattle.text_model.specs.Flat.{are_trees_flat, are_messages_flat}
use Rattle.st_formatter.specs.Waiting.{trees_at}
use Rattle.st_formatter.proofs.flat.put_messages.Given as goal

abbrev pub invariant-loop-message : goal.invariant-loop-message
invariant-loop-message l =
    let rest = messages_of (drop l.message-index l.messages) in
    record {
      flat : (are_trees_flat (trees_at l.waiting.items) && are_messages_flat rest) ≡ (are_trees_flat (trees_at l.initial.waiting.items) && are_messages_flat (messages_of l.messages));
      weight : trees_weight (trees_at l.waiting.items) + messages_weight rest ≤ trees_weight (trees_at l.initial.waiting.items) + messages_weight (messages_of l.messages);
    }
