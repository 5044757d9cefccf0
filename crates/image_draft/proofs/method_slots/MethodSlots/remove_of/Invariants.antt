use Rattle.std.proofs.Common.{◌≡◌}
use Rattle.image_draft.specs.MethodSlots.{without_its, KeepsMethods}
use Rattle.image_draft.proofs.SlotLists.{changed_before}
use Rattle.image_draft.proofs.method_slots.MethodSlots.remove_of.Given as goal

abbrev pub invariant-loop-place : goal.invariant-loop-place
invariant-loop-place l = KeepsMethods l.self × (l.self.slots.items ≡ changed_before (without_its l.fn.class) l.fn.self.slots.items l.place)
