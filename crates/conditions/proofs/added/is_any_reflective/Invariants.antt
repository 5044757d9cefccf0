use Rattle.std.proofs.Common.{◌≡◌, drop}
use Rattle.std.specs.List.{list_any}
use Rattle.mentions.specs.Listing.{pointed}
use Rattle.rename_model.specs.Conditions.{is_reflective}
use Rattle.command_model.specs.Numbers.{number_command_words}
use Rattle.conditions.proofs.added.is_any_reflective.Given as goal

abbrev pub invariant-loop-node : goal.invariant-loop-node
invariant-loop-node l =
    list_any (is_reflective (number_command_words l.names)) (pointed (drop l.node-index l.nodes)) ≡ list_any (is_reflective (number_command_words l.names)) (pointed l.nodes)
