use Rattle.std.proofs.Common.{◌≡◌, ◌++◌, take}
use Rattle.std.specs.List.{flat_map}
use Rattle.witness_lists.specs.Views.{shown}
use Rattle.use_witnesses.specs.Targets.{rival_at}
use Rattle.use_witnesses.proofs.targets.rivals.Given as goal

abbrev pub invariant-loop-class : goal.invariant-loop-class
invariant-loop-class l =
    shown l.image l.found.items ≡ shown l.image l.initial.found.items ++ flat_map (rival_at l.image l.method) (take l.class-index l.class-items)
