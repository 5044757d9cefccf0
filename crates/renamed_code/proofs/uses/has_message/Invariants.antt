use Rattle.std.proofs.Common.{◌≡◌, drop}
use Rattle.st_tree.specs.View.{messages_of}
use Rattle.rename_model.specs.Conditions.{has_message_that}
use Rattle.renamed_code.specs.ChangedCode.{renamed_of}
use Rattle.renamed_code.specs.Renamings.{is_the_selector}
use Rattle.renamed_code.proofs.uses.has_message.Given as goal

abbrev pub invariant-loop-message : goal.invariant-loop-message
invariant-loop-message l =
    has_message_that (is_the_selector (renamed_of l.what)) (messages_of (drop l.message-index l.messages)) ≡ has_message_that (is_the_selector (renamed_of l.what)) (messages_of l.messages)
