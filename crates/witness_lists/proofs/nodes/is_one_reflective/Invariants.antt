use Rattle.std.proofs.Common.{◌≡◌, drop}
use Rattle.st_tree.specs.View.{messages_of}
use Rattle.rename_model.specs.Conditions.{has_message_that}
use Rattle.command_model.specs.Numbers.{number_command_words}
use Rattle.witness_lists.proofs.nodes.is_one_reflective.Given as goal

abbrev pub invariant-loop-message : goal.invariant-loop-message
invariant-loop-message l =
    has_message_that (number_command_words l.names).is_reflective_selector (messages_of (drop l.message-index l.messages))
    ≡ has_message_that (number_command_words l.names).is_reflective_selector (messages_of l.messages)
