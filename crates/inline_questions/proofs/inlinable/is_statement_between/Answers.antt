use Rattle.std.proofs.Common.{ap, ◌∙◌}
use Rattle.std.specs.Prelude.{nat_lt}
use Rattle.st_tree.specs.View.{method_of}
use Rattle.inline_questions.proofs.Between.{inside}
use Rattle.inline_questions.proofs.inlinable.is_statement_between.Goals as goal

pub returns : goal.returns
returns c =
    ap (nat_lt c.in-Some.number) c.saturating_sub.ensures
    ∙ inside (method_of c.args.method.now) c.args.path.now c.in-Some.number c.innermost.result c.in_ok-sequence.sequence c.statements_at-count.result.now
    c.in-Some.ensures c.innermost.ensures c.if-innermost-eq0.false c.in_ok-sequence.ensures c.statements_at-count.ensures
