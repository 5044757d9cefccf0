use Rattle.std.proofs.Common.{◌≡◌, ◌++◌, take}
use Rattle.std.specs.List.{flat_map}
use Rattle.witness_lists.specs.Classes.{class_found, is_sought}
use Rattle.witness_lists.specs.Views.{shown}
use Rattle.witness_lists.proofs.classes.classes_that.Given as goal

abbrev pub invariant-loop-id : goal.invariant-loop-id
invariant-loop-id l =
    shown l.image l.found.items ≡ shown l.image l.initial.found.items ++ flat_map (class_found (is_sought l.test) l.image) (take l.id-index l.id-items)
