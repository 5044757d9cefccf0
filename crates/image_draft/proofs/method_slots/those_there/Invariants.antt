use Rattle.std.proofs.Common.{◌≡◌, ◌++◌}
use Rattle.std.specs.Prelude.{Option}
use Rattle.std.specs.List.{filter_map}
use Rattle.image_draft.proofs.method_slots.those_there.Given as goal

abbrev pub invariant-loop-slot : goal.invariant-loop-slot
invariant-loop-slot g l = l.items.items ++ filter_map (λ (slot : Option _). slot) l.slot-iterator.rest.items ≡ filter_map (λ (slot : Option _). slot) l.fn.slots.items
