use Rattle.std.proofs.Common.{◌≡◌}
use Rattle.image_model.specs.Upwards.{upwards}
use Rattle.class_table.specs.Finding.{on_chain_at}
use Rattle.method_questions.specs.Moves.{covered_in, is_covered}
use Rattle.method_questions.proofs.moves.is_covered.Given as goal

abbrev pub invariant-loop-left : goal.invariant-loop-left
invariant-loop-left l =
    covered_in l.image l.moved l.owners (upwards (λ k. on_chain_at l.image.classes l.image.class_order k 1) l.left l.at) ≡ is_covered l.image l.moved l.owners l.fn.class

abbrev pub decreases-loop-left : goal.decreases-loop-left
decreases-loop-left l = l.left
