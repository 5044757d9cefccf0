use Rattle.std.proofs.Common.{◌≡◌, ◌++◌, ◌-◌, drop, length}
use Rattle.std.specs.List.{flat_map, enumerate_from}
use Rattle.witness_lists.specs.Views.{shown}
use Rattle.use_witnesses.proofs.Highs.{one_doit}
use Rattle.use_witnesses.proofs.heights.high_doits.Given as goal

abbrev pub invariant-loop-number : goal.invariant-loop-number
invariant-loop-number g l =
    shown l.image l.found.items ++ flat_map (one_doit l.image l.looked) (enumerate_from l.number (drop l.number l.image.doits))
    ≡ shown l.image l.initial.found.items ++ flat_map (one_doit l.image l.looked) (enumerate_from 0 l.image.doits)

abbrev pub decreases-loop-number : goal.decreases-loop-number
decreases-loop-number g l = length l.image.doits - l.number
