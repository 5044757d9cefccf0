use Rattle.std.proofs.Common.{◌≡◌}
use Rattle.image_model.specs.Upwards.{upwards, first_given}
use Rattle.class_table.specs.Finding.{above, method_in, found_on_chain}
use Rattle.class_table.proofs.image.Image.find_up.Given as goal

abbrev pub invariant-loop-left : goal.invariant-loop-left
invariant-loop-left l =
    first_given (λ c. method_in l.self.methods l.self.method_order (record { class = c; meta = l.fn.meta; selector = l.fn.selector })) (upwards (above l.self.classes l.self.class_order) l.left l.at)
    ≡ found_on_chain l.self l.fn.class l.fn.meta l.fn.selector

abbrev pub decreases-loop-left : goal.decreases-loop-left
decreases-loop-left l = l.left
