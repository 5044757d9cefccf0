use Rattle.std.proofs.Common.{◌≡◌, ◌++◌, drop, map}
use Rattle.change_file.specs.Shown.{shown_method, key_shown}
use Rattle.change_file.proofs.methods.keys_of.Given as goal

abbrev pub invariant-loop-item : goal.invariant-loop-item
invariant-loop-item l = l.keys ++ map key_shown (map shown_method (drop l.item-index l.items)) ≡ map key_shown (map shown_method l.items)
