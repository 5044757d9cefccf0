use Rattle.std.proofs.Common.{◌≡◌, drop}
use Rattle.st_tree.specs.View.{messages_of}
use Rattle.parameter_questions.specs.Codes.{means_in, all_dropped}
use Rattle.parameter_questions.proofs.code.all_dropped.Given as goal

abbrev pub invariant-loop-message : goal.invariant-loop-message
invariant-loop-message l =
    all_dropped (means_in l.image l.code l.path) l.selector l.number (messages_of (drop l.message-index l.messages))
    ≡ all_dropped (means_in l.image l.code l.path) l.selector l.number (messages_of l.messages)
