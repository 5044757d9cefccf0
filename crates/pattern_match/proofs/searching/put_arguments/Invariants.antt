use Rattle.std.proofs.Common.{◌≡◌, ◌++◌, drop}
use Rattle.tree_model.specs.Path.{all_arguments}
use Rattle.st_tree.specs.View.{messages_of}
use Rattle.pattern_model.specs.MatchTree.{numbered}
use Rattle.pattern_match.specs.Gathering.{parts_from}
use Rattle.pattern_match.proofs.searching.put_arguments.Given as goal

abbrev pub invariant-loop-message : goal.invariant-loop-message
invariant-loop-message l = parts_from l.parts.items ++ numbered l.step (all_arguments (messages_of (drop l.message-index l.messages))) ≡ parts_from l.initial.parts.items ++ numbered 1 (all_arguments (messages_of l.messages))
