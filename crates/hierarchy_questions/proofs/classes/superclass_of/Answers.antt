use Rattle.std.proofs.Common.{ap, sym, ◌∙◌}
use Rattle.std.specs.Option.{option_and_then}
use Rattle.hierarchy_questions.specs.Parents.{parent_in}
use Rattle.hierarchy_questions.proofs.Parents.{named-parent}
use Rattle.hierarchy_questions.proofs.classes.superclass_of.Goals as goal

pub returns-in_err-class_named : goal.returns-in_err-class_named
returns-in_err-class_named c =
    let s = c.args.image.now in
    c.from_residual.ensures ∙ ap (option_and_then (parent_in s)) (sym c.in_err-class_named.was ∙ c.class_named.ensures) ∙ named-parent s c.args.class

pub returns : goal.returns
returns c =
    let s = c.args.image.now in
    c.parent_of.ensures ∙ ap (option_and_then (parent_in s)) (sym c.in_ok-class_named.was ∙ c.class_named.ensures) ∙ named-parent s c.args.class
