use Rattle.std.proofs.Common.{◌≡◌, drop}
use Rattle.std.specs.List.{list_any}
use Rattle.class_questions.specs.LiveClasses.{is_live_that}
use Rattle.inline_questions.specs.Targets.{is_rival}
use Rattle.inline_questions.proofs.targets.has_rival.Given as goal

abbrev pub invariant-loop-id : goal.invariant-loop-id
invariant-loop-id l = list_any (is_live_that (is_rival l.image l.method) l.image) (drop l.id-index l.classes) ≡ list_any (is_live_that (is_rival l.image l.method) l.image) l.classes
