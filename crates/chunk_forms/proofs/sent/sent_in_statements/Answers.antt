use Rattle.std.proofs.Common.{sym}
use Rattle.rb_base.specs.Names.{name_at}
use Rattle.chunk_forms.proofs.Strings.{no_one_statement}
use Rattle.chunk_forms.proofs.sent.sent_in_statements.Goals as goal

pub returns-else-is_empty : goal.returns-else-is_empty
returns-else-is_empty c =
    no_one_statement (name_at c.args.names.now) c.args.statements.now c.in-Some.first.now c.in-Some.others.now c.in-Some.ensures.cases.0 (sym c.if-is_empty.ensures)
