use Rattle.std.proofs.Common.{◌≡◌, ◌++◌, [], nat_eq}
use Rattle.std.specs.Vec.Iter.{into_iter_items}
use Rattle.file_laws.specs.Settling as settling
use Rattle.image_draft.proofs.order.pass.Given as goal

abbrev pub invariant-loop-class : goal.invariant-loop-class
invariant-loop-class l =
    l.classes ++ settling.passed nat_eq l.name l.above l.waiting (into_iter_items l.class-iterator) ≡ settling.passed nat_eq l.name l.above [] l.fn.classes
