use Rattle.std.proofs.Common.{◌≡◌, ◌≤◌, min, max, drop}
use Rattle.tree_model.specs.Tree.{literals_of}
use Rattle.tree_model.specs.Measure.{literals_height}
use Rattle.st_tree.proofs.literal.+literal_height.Given as goal

abbrev pub invariant-Literals::height-loop-item : goal.invariant-Literals::height-loop-item
invariant-Literals::height-loop-item l =
    (l.most ≤ 18446744073709551615) × (min (max l.most (literals_height (literals_of (drop l.item-index l.item-items)))) 18446744073709551615 ≡ min (literals_height (literals_of l.self)) 18446744073709551615)
