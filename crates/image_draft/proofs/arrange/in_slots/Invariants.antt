use Rattle.std.proofs.Common.{◌≡◌, ◌++◌, map, Some}
use Rattle.image_draft.proofs.arrange.in_slots.Given as goal

abbrev pub invariant-loop-item : goal.invariant-loop-item
invariant-loop-item g l = l.slots.items ++ map Some l.item-iterator.rest.items ≡ map Some l.fn.items.items
