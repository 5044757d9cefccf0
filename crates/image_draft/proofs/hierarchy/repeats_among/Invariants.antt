use Rattle.std.proofs.Common.{◌≡◌, nat_eq, length}
use Rattle.file_model.specs.Hierarchy as hierarchy
use Rattle.image_draft.proofs.hierarchy.repeats_among.Given as goal

abbrev pub invariant-loop-name : goal.invariant-loop-name
invariant-loop-name l = hierarchy.has_repeat nat_eq l.rest ≡ hierarchy.has_repeat nat_eq l.fn.names

abbrev pub decreases-loop-name : goal.decreases-loop-name
decreases-loop-name l = length l.rest
