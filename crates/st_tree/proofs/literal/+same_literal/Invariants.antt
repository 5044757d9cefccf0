use Rattle.std.proofs.Common.{◌≡◌, ◌↔◌, drop}
use Rattle.tree_model.specs.Tree.{literals_of}
use Rattle.st_tree.proofs.literal.+same_literal.Given as goal

abbrev pub invariant-Literals::same-loop-i : goal.invariant-Literals::same-loop-i
invariant-Literals::same-loop-i l =
    (literals_of l.self ≡ literals_of l.other) ↔ (literals_of (drop l.i l.self) ≡ literals_of (drop l.i l.other))
