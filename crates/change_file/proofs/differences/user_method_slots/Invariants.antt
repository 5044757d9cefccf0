use Rattle.std.proofs.Common.{◌≡◌, ◌++◌, drop, map, Some}
use Rattle.change_file.specs.Members.{method_in}
use Rattle.change_file.proofs.MethodLists.{user_entries}
use Rattle.change_file.proofs.differences.user_method_slots.Given as goal

abbrev pub invariant-loop-slot : goal.invariant-loop-slot
invariant-loop-slot l = map (method_in l.image) l.slots.items ++ map Some (user_entries l.image (drop l.slot-index l.slot-items)) ≡ map Some (user_entries l.image l.slot-items)
