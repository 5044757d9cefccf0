use Rattle.std.proofs.Common.{◌≡◌, ◌-◌, length}
use Rattle.canonical_image.specs.Sources.{canonical_doit_rec, first_changed}
use Rattle.canonical_image.proofs.format.format_doits.Given as goal

abbrev pub invariant-loop-number : goal.invariant-loop-number
invariant-loop-number g l = record {
  is : l.image ≡ record l.initial.image { doits = first_changed (canonical_doit_rec l.initial.image.names) l.number l.initial.image.doits };
}

abbrev pub decreases-loop-number : goal.decreases-loop-number
decreases-loop-number g l = length l.image.doits - l.number
