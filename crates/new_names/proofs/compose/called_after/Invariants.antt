use Rattle.std.proofs.Common.{◌≡◌, drop}
use Rattle.new_names.specs.NewNames.{called_after}
use Rattle.new_names.proofs.compose.called_after.Given as goal

abbrev pub invariant-loop-new : goal.invariant-loop-new
invariant-loop-new l = called_after (drop l.new-index l.names) l.called ≡ called_after l.names l.fn.name
