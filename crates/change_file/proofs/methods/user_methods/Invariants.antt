use Rattle.std.proofs.Common.{◌≡◌, ◌++◌, drop, map}
use Rattle.change_file.specs.Shown.{shown_method}
use Rattle.change_file.proofs.MethodLists.{shown_users}
use Rattle.change_file.proofs.methods.user_methods.Given as goal

abbrev pub invariant-loop-slot : goal.invariant-loop-slot
invariant-loop-slot l = map shown_method l.items.items ++ shown_users l.image (drop l.slot-index l.slot-items) ≡ shown_users l.image l.slot-items
