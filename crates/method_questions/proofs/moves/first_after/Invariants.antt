use Rattle.std.proofs.Common.{◌≡◌}
use Rattle.image_model.specs.Upwards.{upwards, first_given}
use Rattle.class_table.specs.Finding.{on_chain_at}
use Rattle.method_questions.specs.Moves.{own_after, first_after}
use Rattle.method_questions.proofs.moves.first_after.Given as goal

abbrev pub invariant-loop-left : goal.invariant-loop-left
invariant-loop-left l =
    first_given (own_after l.image l.moved) (upwards (λ k. on_chain_at l.image.classes l.image.class_order k 1) l.left l.at) ≡ first_after l.image l.moved l.fn.class

abbrev pub decreases-loop-left : goal.decreases-loop-left
decreases-loop-left l = l.left
