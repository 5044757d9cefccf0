use Rattle.std.proofs.Common.{◌≡◌}
use Rattle.image_model.specs.Upwards.{nth_above}
use Rattle.class_table.specs.Finding.{above, on_chain_at}
use Rattle.class_table.proofs.image.Image.chain_at.Given as goal

abbrev pub invariant-loop-left : goal.invariant-loop-left
invariant-loop-left l =
    nth_above (above l.self.classes l.self.class_order) l.left l.at ≡ on_chain_at l.self.classes l.self.class_order l.fn.class l.fn.n

abbrev pub decreases-loop-left : goal.decreases-loop-left
decreases-loop-left l = l.left
