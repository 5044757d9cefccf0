use Rattle.std.proofs.Common.{◌≡◌, map, take}
use Rattle.std.specs.Prelude.{flat_map}
use Rattle.session.specs.Log.{DoneCommand, Done}
use Rattle.session.proofs.session.Session.renames.Given as goal

abbrev pub invariant-loop-entry : goal.invariant-loop-entry
invariant-loop-entry l = l.found.items ≡ flat_map (λ (e : Done). map (λ (d : DoneCommand). d.renames) e.commands) (take l.entry-index l.entry-items)
