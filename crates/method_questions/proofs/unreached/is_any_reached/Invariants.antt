use Rattle.std.proofs.Common.{◌≡◌, drop}
use Rattle.std.specs.List.{list_any}
use Rattle.method_questions.specs.Unreached.{is_one_reached}
use Rattle.method_questions.proofs.unreached.is_any_reached.Given as goal

abbrev pub invariant-loop-class : goal.invariant-loop-class
invariant-loop-class g l = list_any (is_one_reached l.image l.moved) (drop l.class-index l.classes) ≡ list_any (is_one_reached l.image l.moved) l.classes
