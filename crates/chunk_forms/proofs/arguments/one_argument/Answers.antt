use Rattle.std.proofs.Common.{sym}
use Rattle.chunk_forms.proofs.Strings.{no_one_argument}
use Rattle.chunk_forms.proofs.arguments.one_argument.Goals as goal

pub returns-else-is_empty : goal.returns-else-is_empty
returns-else-is_empty c =
    λ f. no_one_argument f c.args.arguments.now c.in-Some.first.now c.in-Some.others.now c.in-Some.ensures.cases.0 (sym c.if-is_empty.ensures)
