use Rattle.std.proofs.Common.{◌-◌, ◌≤◌, length}
use Rattle.pattern_faults.proofs.MetaPlaces.{ReadTo}
use Rattle.pattern_faults.proofs.places.meta_places.Given as goal

abbrev pub invariant-tokens : goal.invariant-tokens
invariant-tokens l = record { inside : l.place ≤ length l.text; read : ReadTo l.text l.place l.ends l.places.items }

abbrev pub decreases-tokens : goal.decreases-tokens
decreases-tokens l = length l.text - l.place
