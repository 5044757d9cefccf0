use Rattle.std.proofs.Common.{◌≡◌, drop}
use Rattle.std.specs.List.{list_any}
use Rattle.st_tree.specs.declared.tree.Statement.{Statement}
use Rattle.command_model.specs.Places.{is_return}
use Rattle.inline_questions.proofs.inlinable.is_any_return.Given as goal

abbrev pub invariant-loop-statement : goal.invariant-loop-statement
invariant-loop-statement l =
    list_any (λ (s : Statement). is_return s.node) (drop l.statement-index l.statements) ≡ list_any (λ (s : Statement). is_return s.node) l.statements
