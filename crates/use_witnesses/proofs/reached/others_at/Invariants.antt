use Rattle.std.proofs.Common.{◌≡◌, ◌++◌, take}
use Rattle.std.specs.List.{flat_map}
use Rattle.witness_lists.specs.Views.{shown}
use Rattle.use_witnesses.specs.Reached.{another_at}
use Rattle.use_witnesses.proofs.reached.others_at.Given as goal

abbrev pub invariant-loop-class : goal.invariant-loop-class
invariant-loop-class g l =
    shown l.image l.found.items ≡ shown l.image l.initial.found.items ++ flat_map (another_at l.image l.moved) (take l.class-index l.class-items)
