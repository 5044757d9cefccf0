use Rattle.std.proofs.Common.{◌≡◌, ◌++◌, ◌-◌, drop, length}
use Rattle.std.specs.List.{flat_map, enumerate_from}
use Rattle.class_table.specs.View.{doit_of}
use Rattle.witness_lists.specs.Views.{shown}
use Rattle.use_witnesses.specs.Uses.{body_uses}
use Rattle.use_witnesses.proofs.uses.uses_in_doits.Given as goal

abbrev pub invariant-loop-number : goal.invariant-loop-number
invariant-loop-number g l =
    shown l.image l.found.items ++ flat_map (λ e. body_uses l.image l.sought (e.0, doit_of e.1)) (enumerate_from l.number (drop l.number l.image.doits))
    ≡ shown l.image l.initial.found.items ++ flat_map (λ e. body_uses l.image l.sought (e.0, doit_of e.1)) (enumerate_from 0 l.image.doits)

abbrev pub decreases-loop-number : goal.decreases-loop-number
decreases-loop-number g l = length l.image.doits - l.number
