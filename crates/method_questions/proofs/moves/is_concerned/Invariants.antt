use Rattle.std.proofs.Common.{◌≡◌}
use Rattle.std.specs.List.{list_any}
use Rattle.image_model.specs.Upwards.{upwards}
use Rattle.class_table.specs.Finding.{on_chain_at}
use Rattle.method_questions.specs.Moves.{is_changed, is_concerned}
use Rattle.method_questions.proofs.moves.is_concerned.Given as goal

abbrev pub invariant-loop-left : goal.invariant-loop-left
invariant-loop-left l =
    list_any (is_changed l.image l.moved) (upwards (λ k. on_chain_at l.image.classes l.image.class_order k 1) l.left l.at) ≡ is_concerned l.image l.moved l.fn.class

abbrev pub decreases-loop-left : goal.decreases-loop-left
decreases-loop-left l = l.left
