use Rattle.std.proofs.Common.{◌≡◌}
use Rattle.image_strip.specs.Stripped.{is_class_marked}
use Rattle.image_strip.proofs.Taken.{IsTaken}
use Rattle.image_strip.proofs.stripped.strip_classes.Given as goal

abbrev pub invariant-loop-left : goal.invariant-loop-left
invariant-loop-left l = record {
  others : l.image ≡ record l.fn.image { class_order = l.image.class_order };
  taken : IsTaken (is_class_marked l.fn.image.classes l.reach.classes) l.fn.image.class_order l.image.class_order l.left;
}

abbrev pub decreases-loop-left : goal.decreases-loop-left
decreases-loop-left l = l.left
