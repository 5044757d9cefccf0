use Rattle.std.proofs.Common.{◌≡◌, ◌++◌}
use Rattle.image_draft.specs.MethodSlots.{those_there, KeepsMethods}
use Rattle.image_draft.proofs.method_slots.MethodSlots.from_items.Given as goal

abbrev pub invariant-loop-method : goal.invariant-loop-method
invariant-loop-method l = KeepsMethods l.slots × (those_there l.slots.slots.items ++ l.method-iterator.rest.items ≡ l.fn.items.items)
