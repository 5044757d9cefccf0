use Rattle.std.proofs.Common.{sym, ◌∙◌}
use Rattle.inlined_code.proofs.Answers.{answered-rest}
use Rattle.inlined_code.proofs.passing.answered.Goals as goal

pub returns-then-not-is_empty : goal.returns-then-not-is_empty
returns-then-not-is_empty c =
    answered-rest c.args.statements.now c.in_ok-statement.statement.now c.in_ok-statement.rest.now c.in_ok-statement.ensures.cases.0
    (sym c.is_empty.ensures ∙ c.if-not-is_empty.true)
