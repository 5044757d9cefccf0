use Rattle.std.proofs.Common.{ap, ◌∙◌}
use Rattle.std.specs.List.{list_any}
use Rattle.class_table.specs.View.{class_of}
use Rattle.class_questions.specs.LiveClasses.{is_live_that, defines_below}
use Rattle.class_questions.proofs.AnyLive.{any_live}
use Rattle.class_questions.proofs.chains.is_defined_below.Goals as goal

pub returns : goal.returns
returns c =
    let s = c.args.image.now in
    c.one_defines_below.ensures
    ∙ ap (list_any (is_live_that (defines_below s c.args.class c.args.variable) s)) c.classes.ensures.value
    ∙ any_live (class_of s.classes) (defines_below s c.args.class c.args.variable) s.classes s.class_order
