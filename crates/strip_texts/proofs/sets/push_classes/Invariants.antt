use Rattle.std.proofs.Common.{◌≡◌, ◌++◌, take}
use Rattle.std.specs.Prelude.{flat_map}
use Rattle.strip_texts.specs.Lines.{class_line_at}
use Rattle.strip_texts.proofs.sets.push_classes.Given as goal

abbrev pub invariant-loop-id : goal.invariant-loop-id
invariant-loop-id l = l.out ≡ l.initial.out ++ flat_map (class_line_at l.image) (take l.id-index l.id-items)
