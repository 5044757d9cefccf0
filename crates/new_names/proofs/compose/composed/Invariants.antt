use Rattle.std.proofs.Common.{◌≡◌, map, take}
use Rattle.new_names.specs.NewNames.{called_after}
use Rattle.new_names.specs.declared.compose.NewName.{NewName}
use Rattle.new_names.proofs.compose.composed.Given as goal

abbrev pub invariant-loop-new : goal.invariant-loop-new
invariant-loop-new l = l.found.items ≡ map (λ (e : NewName). record { from = e.from; to = called_after l.names e.from }) (take l.new-index l.names)
