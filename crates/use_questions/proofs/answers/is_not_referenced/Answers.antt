use Rattle.std.proofs.Common.{sym, ◌∙◌}
use Rattle.use_questions.proofs.Answered.{not-referenced}
use Rattle.use_questions.proofs.answers.is_not_referenced.Goals as goal

pub returns : goal.returns
returns g c = not-referenced c.args.image.now c.in_ok-is_found.field-0 c.args.class c.in_ok-is_found.ensures (sym c.is_class.ensures ∙ c.if-not-is_class.false)
