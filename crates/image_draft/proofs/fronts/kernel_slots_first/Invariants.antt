use Rattle.std.proofs.Common.{◌≡◌, length}
use Rattle.image_draft.specs.declared.method_draft.MethodDraft.{MethodDraft}
use Rattle.image_draft.specs.Fronts.{in_front}
use Rattle.image_draft.specs.MethodSlots.{those_there}
use Rattle.image_draft.proofs.fronts.kernel_slots_first.Given as goal

abbrev pub invariant-loop-slot : goal.invariant-loop-slot
invariant-loop-slot l = in_front (λ (m : MethodDraft). m.kernel) (those_there l.rest) ≡ in_front (λ (m : MethodDraft). m.kernel) (those_there l.fn.slots)

abbrev pub decreases-loop-slot : goal.decreases-loop-slot
decreases-loop-slot l = length l.rest
