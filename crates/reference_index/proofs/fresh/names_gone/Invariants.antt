use Rattle.std.proofs.Common.{◌≡◌, take}
use Rattle.std.specs.List.{flat_map}
use Rattle.reference_index.specs.Fresh.{gone}
use Rattle.reference_index.proofs.fresh.names_gone.Given as goal

abbrev pub invariant-loop-place : goal.invariant-loop-place
invariant-loop-place l = l.numbers.items ≡ flat_map (gone l.rows) (take l.place-index l.fresh)
