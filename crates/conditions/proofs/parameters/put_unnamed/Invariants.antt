use Rattle.std.proofs.Common.{◌≡◌, ◌++◌, map, drop}
use Rattle.std.specs.List.{filter_map}
use Rattle.commands.specs.Views.{condition_of}
use Rattle.conditions.specs.Unnamed.{unnamed_at}
use Rattle.conditions.proofs.parameters.put_unnamed.Given as goal

abbrev pub invariant-loop-slot : goal.invariant-loop-slot
invariant-loop-slot l =
    map condition_of l.conditions.items ++ filter_map (unnamed_at l.image l.selector l.name) (drop l.slot-index l.slots)
    ≡ map condition_of l.initial.conditions.items ++ filter_map (unnamed_at l.image l.selector l.name) l.slots
