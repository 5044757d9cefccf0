use Rattle.std.proofs.Common.{◌≡◌, ◌+◌, ◌++◌, drop, map}
use Rattle.class_table.specs.View.{image_of}
use Rattle.file_model.specs.Written.{user_methods}
use Rattle.change_model.specs.Differs.{differing_from, method_stays}
use Rattle.change_file.specs.Shown.{placed_method, placed_shown}
use Rattle.change_file.proofs.methods.differing_methods.Given as goal

abbrev pub invariant-loop-number : goal.invariant-loop-number
invariant-loop-number l =
    let i = image_of l.mine.image.now in
    let stay = method_stays i (image_of l.theirs.image.now) in
    map placed_method l.found.items ++ map placed_shown (differing_from (l.number + 1) stay (drop l.number (user_methods i))) ≡ map placed_shown (differing_from 1 stay (user_methods i))
