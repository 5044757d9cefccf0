use Rattle.std.proofs.Common.{◌≡◌, true, take}
use Rattle.std.specs.List.{AllByRecursion}
use Rattle.image_draft.specs.Owners.{is_noted_for, KeepsNotes}
use Rattle.image_draft.proofs.owners.VariableOwners.note_all.Given as goal

abbrev pub invariant-loop-variable : goal.invariant-loop-variable
invariant-loop-variable l = AllByRecursion (λ m. is_noted_for l.self l.class m ≡ true) (take l.variable-index l.variables) × KeepsNotes l.fn.self l.self
