use Rattle.std.proofs.Common.{◌≡◌, take}
use Rattle.st_tree.proofs.literal.+copy_literal.Given as goal

abbrev pub invariant-Literals::try_copy-loop-item : goal.invariant-Literals::try_copy-loop-item
invariant-Literals::try_copy-loop-item l = l.items.items ≡ take l.item-index l.item-items
