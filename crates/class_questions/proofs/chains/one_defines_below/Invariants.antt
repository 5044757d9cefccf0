use Rattle.std.proofs.Common.{◌≡◌, drop}
use Rattle.std.specs.List.{list_any}
use Rattle.class_questions.specs.LiveClasses.{is_live_that, defines_below}
use Rattle.class_questions.proofs.chains.one_defines_below.Given as goal

abbrev pub invariant-loop-id : goal.invariant-loop-id
invariant-loop-id l =
    list_any (is_live_that (defines_below l.image l.class l.variable) l.image) (drop l.id-index l.classes)
    ≡ list_any (is_live_that (defines_below l.image l.class l.variable) l.image) l.classes
