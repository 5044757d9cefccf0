use Rattle.std.proofs.Common.{◌≡◌, ◌++◌, take}
use Rattle.std.specs.List.{filter_map}
use Rattle.composites.specs.Pushed.{slot_push}
use Rattle.composites.proofs.pushes.put_method_pushes.Given as goal

abbrev pub invariant-loop-slot : goal.invariant-loop-slot
invariant-loop-slot g l = l.commands.items ≡ l.fn.commands.items ++ filter_map (slot_push l.image l.class l.variable) (take l.slot-index l.slot-items)
