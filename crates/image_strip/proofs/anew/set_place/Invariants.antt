use Rattle.std.proofs.Common.{◌≡◌, ℕ, ◌+◌, ◌-◌, length}
use Rattle.image_strip.specs.Anew.{place_in}
use Rattle.image_strip.proofs.anew.set_place.Given as goal

abbrev pub invariant-loop-places : goal.invariant-loop-places
invariant-loop-places l = (n : ℕ) → place_in l.places.items n ≡ place_in l.initial.places.items n

abbrev pub decreases-loop-places : goal.decreases-loop-places
decreases-loop-places l = (l.id-inside.0 + 1) - length l.places.items
