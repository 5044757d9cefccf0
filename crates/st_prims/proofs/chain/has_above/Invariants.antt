use Rattle.std.proofs.Common.{◌≡◌, length}
use Rattle.std.specs.List.{list_any}
use Rattle.image_model.specs.Upwards.{upwards}
use Rattle.st_prims.specs.Walks.{has_text, next_above}
use Rattle.st_prims.proofs.chain.has_above.Given as goal

abbrev pub invariant-loop-left : goal.invariant-loop-left
invariant-loop-left l = list_any (has_text l.image l.name) (upwards (next_above l.image) l.left l.at) ≡ list_any (has_text l.image l.name) (upwards (next_above l.image) (length l.image.class_order) l.fn.from)

abbrev pub decreases-loop-left : goal.decreases-loop-left
decreases-loop-left l = l.left
