use Rattle.std.proofs.Common.{◌≡◌, ◌++◌}
use Rattle.image_draft.proofs.arrange.listed.Given as goal

abbrev pub invariant-loop-class : goal.invariant-loop-class
invariant-loop-class l = l.list ++ l.class-iterator.rest.items ≡ l.fn.classes.items
