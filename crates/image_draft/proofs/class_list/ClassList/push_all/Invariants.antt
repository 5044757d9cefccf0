use Rattle.std.proofs.Common.{◌≡◌, ◌++◌}
use Rattle.std.specs.Vec.Iter.{into_iter_items}
use Rattle.image_draft.proofs.class_list.ClassList.push_all.Given as goal

abbrev pub invariant-loop-class : goal.invariant-loop-class
invariant-loop-class l = l.self ++ into_iter_items l.class-iterator ≡ l.fn.self ++ l.fn.items.items
