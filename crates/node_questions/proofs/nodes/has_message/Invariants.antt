use Rattle.std.proofs.Common.{◌≡◌, drop, nat_eq}
use Rattle.image_model.specs.Uses.{has_message}
use Rattle.st_tree.specs.View.{messages_of}
use Rattle.node_questions.proofs.nodes.has_message.Given as goal

abbrev pub invariant-loop-message : goal.invariant-loop-message
invariant-loop-message l = has_message nat_eq l.selector (messages_of (drop l.message-index l.messages)) ≡ has_message nat_eq l.selector (messages_of l.messages)
