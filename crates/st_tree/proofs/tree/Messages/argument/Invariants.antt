use Rattle.std.proofs.Common.{◌≡◌, drop}
use Rattle.tree_model.specs.Path.{nth, all_arguments}
use Rattle.st_tree.specs.View.{messages_of}
use Rattle.st_tree.proofs.tree.Messages.argument.Given as goal

abbrev pub invariant-loop-message : goal.invariant-loop-message
invariant-loop-message l =
    nth (all_arguments (messages_of l.self)) l.at ≡ nth (all_arguments (messages_of (drop l.message-index l.message-items))) l.left
