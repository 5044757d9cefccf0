use Rattle.std.proofs.Common.{◌≡◌, [], length}
use Rattle.std.specs.List.{list_any}
use Rattle.image_draft.specs.Kinds.{kind_of}
use Rattle.image_draft.specs.NameSets.{has}
use Rattle.image_draft.specs.Parts.{brings, marked}
use Rattle.image_draft.proofs.hierarchy.meets_below.Given as goal

abbrev pub invariant-loop-class : goal.invariant-loop-class
invariant-loop-class l =
    list_any (brings l.name (kind_of l.kind) (has l.above)) (marked l.name (has l.below) l.rest) ≡ list_any (brings l.name (kind_of l.kind) (has l.above)) (marked l.name (has []) l.fn.classes)

abbrev pub decreases-loop-class : goal.decreases-loop-class
decreases-loop-class l = length l.rest
