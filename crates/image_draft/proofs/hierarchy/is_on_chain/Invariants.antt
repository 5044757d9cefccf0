use Rattle.std.proofs.Common.{◌≡◌, nat_eq, option_copied}
use Rattle.image_model.specs.Upwards.{upwards}
use Rattle.image_model.specs.Chain.{chain_from, superclass_of}
use Rattle.file_model.specs.Hierarchy.{stands_in}
use Rattle.image_draft.proofs.hierarchy.is_on_chain.Given as goal

abbrev pub invariant-loop-left : goal.invariant-loop-left
invariant-loop-left l = stands_in nat_eq l.name (upwards (superclass_of nat_eq l.classes) l.left (option_copied l.at)) ≡ stands_in nat_eq l.name (chain_from nat_eq l.classes (option_copied l.fn.from))

abbrev pub decreases-loop-left : goal.decreases-loop-left
decreases-loop-left l = l.left
