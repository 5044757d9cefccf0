use Rattle.std.proofs.Common.{ap, ◌∙◌}
use Rattle.std.specs.Prelude.{nat_eq}
use Rattle.std.specs.List.{list_any}
use Rattle.rename_model.specs.NamesThere.{is_named_by_class}
use Rattle.class_table.specs.View.{class_of}
use Rattle.class_questions.specs.LiveClasses.{is_live_that}
use Rattle.class_questions.proofs.AnyLive.{any_live}
use Rattle.class_questions.proofs.records.is_any_named.Goals as goal

pub returns : goal.returns
returns c =
    let s = c.args.image.now in
    c.is_named_in_one.ensures
    ∙ ap (list_any (is_live_that (is_named_by_class nat_eq c.args.name) s)) c.classes.ensures.value
    ∙ any_live (class_of s.classes) (is_named_by_class nat_eq c.args.name) s.classes s.class_order
