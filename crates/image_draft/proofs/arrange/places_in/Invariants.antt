use Rattle.std.proofs.Common.{◌≡◌, map, take}
use Rattle.image_draft.specs.Table.{place_in}
use Rattle.image_draft.proofs.arrange.places_in.Given as goal

abbrev pub invariant-loop-name : goal.invariant-loop-name
invariant-loop-name l = l.places.items ≡ map (place_in l.classes) (take l.name-index l.names)
