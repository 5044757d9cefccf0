use Rattle.std.proofs.Common.{◌≡◌, ◌++◌, take}
use Rattle.std.specs.Prelude.{flat_map}
use Rattle.strip_texts.specs.Lines.{method_line_at}
use Rattle.strip_texts.proofs.sets.push_methods.Given as goal

abbrev pub invariant-loop-slot : goal.invariant-loop-slot
invariant-loop-slot l = l.out ≡ l.initial.out ++ flat_map (method_line_at l.image) (take l.slot-index l.slot-items)
