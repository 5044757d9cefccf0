use Rattle.std.proofs.Common.{◌≡◌, drop}
use Rattle.std.specs.Prelude.{nat_eq}
use Rattle.std.specs.List.{list_any}
use Rattle.rename_model.specs.NamesThere.{is_named_by_class}
use Rattle.class_questions.specs.LiveClasses.{is_live_that}
use Rattle.class_questions.proofs.records.is_named_in_one.Given as goal

abbrev pub invariant-loop-class : goal.invariant-loop-class
invariant-loop-class l =
    list_any (is_live_that (is_named_by_class nat_eq l.name) l.image) (drop l.class-index l.classes)
    ≡ list_any (is_live_that (is_named_by_class nat_eq l.name) l.image) l.classes
