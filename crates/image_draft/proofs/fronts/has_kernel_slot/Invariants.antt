use Rattle.std.proofs.Common.{◌≡◌, length}
use Rattle.std.specs.List.{list_any}
use Rattle.image_draft.specs.declared.method_draft.MethodDraft.{MethodDraft}
use Rattle.image_draft.specs.MethodSlots.{those_there}
use Rattle.image_draft.proofs.fronts.has_kernel_slot.Given as goal

abbrev pub invariant-loop-slot : goal.invariant-loop-slot
invariant-loop-slot l = list_any (λ (m : MethodDraft). m.kernel) (those_there l.rest) ≡ list_any (λ (m : MethodDraft). m.kernel) (those_there l.fn.slots)

abbrev pub decreases-loop-slot : goal.decreases-loop-slot
decreases-loop-slot l = length l.rest
