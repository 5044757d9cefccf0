use Rattle.std.proofs.Common.{◌∙◌}
use Rattle.method_questions.proofs.SameCode.{none-left}
use Rattle.method_questions.proofs.same.same_statements.Goals as goal

pub returns : goal.returns
returns c = c.is_empty.ensures ∙ (none-left c.args.statements.now c.loop-statement.rest.now c.loop-statement.statement-index c.loop-statement-test.false ∙ c.loop-statement.invariant)
