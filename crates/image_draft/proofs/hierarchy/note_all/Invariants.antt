use Rattle.std.proofs.Common.{length}
use Rattle.image_draft.specs.NameSets.{has}
use Rattle.image_draft.proofs.NameTests.{IsNotedFrom}
use Rattle.image_draft.proofs.hierarchy.note_all.Given as goal

abbrev pub invariant-loop-name : goal.invariant-loop-name
invariant-loop-name l = IsNotedFrom (has l.fn.set) l.fn.names l.set l.rest

abbrev pub decreases-loop-name : goal.decreases-loop-name
decreases-loop-name l = length l.rest
