use Rattle.std.proofs.Common.{take}
use Rattle.image_draft.specs.Owners.{AreOwned}
use Rattle.image_draft.proofs.owners.owners_of.Given as goal

abbrev pub invariant-loop-class : goal.invariant-loop-class
invariant-loop-class l = AreOwned l.owners (take l.class-index l.classes)
