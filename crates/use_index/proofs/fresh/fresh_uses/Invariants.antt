use Rattle.std.proofs.Common.{◌≡◌, ◌+◌, take}
use Rattle.use_index.specs.Fresh.{places_of, AreUsesAt}
use Rattle.use_index.proofs.fresh.fresh_uses.Given as goal

abbrev pub invariant-loop-place : goal.invariant-loop-place
invariant-loop-place g l =
    (places_of l.fresh.items ≡ take l.place-index l.places)
    × AreUsesAt l.image l.fresh.items
    × (l.steps ≡ l.initial.steps + l.place-index)
