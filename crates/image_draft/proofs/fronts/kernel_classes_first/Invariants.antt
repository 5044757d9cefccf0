use Rattle.std.proofs.Common.{◌≡◌, ℕ, length}
use Rattle.image_model.specs.Image.{ClassOf}
use Rattle.image_draft.specs.Fronts.{in_front}
use Rattle.image_draft.proofs.fronts.kernel_classes_first.Given as goal

abbrev pub invariant-loop-class : goal.invariant-loop-class
invariant-loop-class l = in_front (λ (c : ClassOf ℕ). c.kernel) l.rest ≡ in_front (λ (c : ClassOf ℕ). c.kernel) l.fn.classes

abbrev pub decreases-loop-class : goal.decreases-loop-class
decreases-loop-class l = length l.rest
