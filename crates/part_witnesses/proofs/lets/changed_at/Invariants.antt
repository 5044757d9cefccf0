use Rattle.std.proofs.Common.{◌≡◌, ◌++◌, take}
use Rattle.std.specs.List.{flat_map}
use Rattle.part_witnesses.specs.Changed.{changed_name}
use Rattle.part_witnesses.specs.Held.{held_as}
use Rattle.witness_lists.specs.Views.{shown}
use Rattle.part_witnesses.proofs.lets.changed_at.Given as goal

abbrev pub invariant-loop-name : goal.invariant-loop-name
invariant-loop-name l =
    shown l.image l.found.items ≡ shown l.image l.initial.found.items ++ flat_map (changed_name l.image (held_as l.image.classes l.method) l.path l.read) (take l.name-index l.names)
