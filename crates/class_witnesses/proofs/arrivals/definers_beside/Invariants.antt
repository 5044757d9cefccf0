use Rattle.std.proofs.Common.{◌≡◌, ◌++◌, take}
use Rattle.std.specs.List.{flat_map}
use Rattle.hierarchy_questions.specs.Arrivals.{is_defined_beside}
use Rattle.witness_lists.specs.Classes.{class_found}
use Rattle.witness_lists.specs.Views.{shown}
use Rattle.class_witnesses.proofs.arrivals.definers_beside.Given as goal

abbrev pub invariant-loop-id : goal.invariant-loop-id
invariant-loop-id l =
    shown l.image l.found.items ≡ shown l.image l.initial.found.items ++ flat_map (class_found (is_defined_beside l.image l.arrival) l.image) (take l.id-index l.id-items)
