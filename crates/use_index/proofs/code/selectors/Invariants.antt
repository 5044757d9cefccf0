use Rattle.std.proofs.Common.{◌≡◌, ◌++◌, drop}
use Rattle.st_tree.specs.View.{messages_of}
use Rattle.mentions.specs.Mentions.{selectors_of}
use Rattle.use_index.proofs.code.selectors.Given as goal

abbrev pub invariant-loop-message : goal.invariant-loop-message
invariant-loop-message l = l.found ++ selectors_of (messages_of (drop l.message-index l.messages)) ≡ selectors_of (messages_of l.messages)
