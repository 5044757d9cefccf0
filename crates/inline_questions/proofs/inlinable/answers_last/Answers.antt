use Rattle.std.proofs.Common.{not, ap, ◌∙◌}
use Rattle.inline_questions.proofs.Fit.{answers-last}
use Rattle.inline_questions.proofs.inlinable.answers_last.Goals as goal

pub returns-in-Some : goal.returns-in-Some
returns-in-Some c =
    ap not c.is_any_return.ensures ∙ answers-last c.args.statements.now c.in-Some.before.now c.in-Some.field-0-0.now c.in-Some.ensures.cases.0
