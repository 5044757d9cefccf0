use Rattle.std.proofs.Common.{◌≡◌, ◌+◌, ◌++◌, drop, map}
use Rattle.std.specs.List.{AllByRecursion}
use Rattle.class_table.specs.View.{image_of}
use Rattle.file_model.specs.Written.{user_classes}
use Rattle.image_file.specs.Writable.{IsWritableClass}
use Rattle.change_model.specs.Differs.{differing_from, class_stays}
use Rattle.change_file.specs.declared.classes.PlacedClass.{PlacedClass}
use Rattle.change_file.specs.Shown.{placed_class}
use Rattle.change_file.proofs.classes.differing_classes.Given as goal

abbrev pub invariant-loop-number : goal.invariant-loop-number
invariant-loop-number l =
    let s = l.mine.image.now in
    let i = image_of s in
    let stay = class_stays i (image_of l.theirs.image.now) in
    (map (placed_class s) l.found.items ++ differing_from (l.number + 1) stay (drop l.number (user_classes i)) ≡ differing_from 1 stay (user_classes i))
    × AllByRecursion (λ (p : PlacedClass). IsWritableClass s p.rec.now) l.found.items
