use Rattle.std.proofs.Common.{◌≡◌, ◌++◌, ◌-◌, drop, length, map}
use Rattle.std.specs.List.{flat_map, enumerate_from}
use Rattle.class_table.specs.View.{doit_of}
use Rattle.witness_lists.specs.Views.{shown}
use Rattle.witness_lists.specs.Walks.{numbered_found}
use Rattle.witness_lists.proofs.code.sought_in_doits.Given as goal

abbrev pub invariant-loop-number : goal.invariant-loop-number
invariant-loop-number g l =
    shown l.image l.found.items ++ flat_map (numbered_found l.image.names l.sought) (enumerate_from l.number (map doit_of (drop l.number l.image.doits)))
    ≡ shown l.image l.initial.found.items ++ flat_map (numbered_found l.image.names l.sought) (enumerate_from 0 (map doit_of l.image.doits))

abbrev pub decreases-loop-number : goal.decreases-loop-number
decreases-loop-number g l = length l.image.doits - l.number
