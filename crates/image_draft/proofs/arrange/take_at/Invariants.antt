use Rattle.std.proofs.Common.{◌≡◌, take}
use Rattle.image_draft.specs.Arranged.{at_places, AreLeft}
use Rattle.image_draft.proofs.arrange.take_at.Given as goal

abbrev pub invariant-loop-place : goal.invariant-loop-place
invariant-loop-place l = (l.taken.items ≡ at_places (take l.place-index l.places) l.fn.classes.items) × AreLeft l.fn.classes.items l.slots.items
