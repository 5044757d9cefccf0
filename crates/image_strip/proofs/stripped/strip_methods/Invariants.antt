use Rattle.std.proofs.Common.{◌≡◌}
use Rattle.image_strip.specs.Reached.{is_marked}
use Rattle.image_strip.proofs.Taken.{IsTaken}
use Rattle.image_strip.proofs.stripped.strip_methods.Given as goal

abbrev pub invariant-loop-left : goal.invariant-loop-left
invariant-loop-left l = record {
  others : l.image ≡ record l.fn.image { method_order = l.image.method_order };
  taken : IsTaken (is_marked l.reach.methods) l.fn.image.method_order l.image.method_order l.left;
}

abbrev pub decreases-loop-left : goal.decreases-loop-left
decreases-loop-left l = l.left
