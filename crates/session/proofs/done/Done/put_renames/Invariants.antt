use Rattle.std.proofs.Common.{◌≡◌, ◌++◌, map, take}
use Rattle.session.specs.Log.{DoneCommand}
use Rattle.session.proofs.done.Done.put_renames.Given as goal

abbrev pub invariant-loop-command : goal.invariant-loop-command
invariant-loop-command l = l.found.items ≡ l.initial.found.items ++ map (λ (d : DoneCommand). d.renames) (take l.command-index l.command-items)
