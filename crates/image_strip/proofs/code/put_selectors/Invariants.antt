use Rattle.std.proofs.Common.{◌≡◌, ◌++◌, drop}
use Rattle.st_tree.specs.View.{messages_of}
use Rattle.strip_model.specs.Reach.{messages_sent}
use Rattle.image_strip.proofs.code.put_selectors.Given as goal

abbrev pub invariant-loop-message : goal.invariant-loop-message
invariant-loop-message l =
    l.selectors ++ messages_sent (messages_of (drop l.message-index l.messages)) ≡ l.initial.selectors ++ messages_sent (messages_of l.messages)
