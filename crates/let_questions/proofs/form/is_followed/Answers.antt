use Rattle.std.proofs.Common.{ℕ, suc, ap, ◌∙◌}
use Rattle.std.specs.Prelude.{nat_lt}
use Rattle.tree_model.specs.Tree.{StatementsOf}
use Rattle.tree_model.specs.Path.{count, statement_trees}
use Rattle.let_questions.proofs.Followed.{followed}
use Rattle.let_questions.proofs.form.is_followed.Goals as goal

pub returns : goal.returns
returns c =
    followed c.args.assignment.now.number c.saturating_sub.result c.statements_at-statements.result.now c.saturating_sub.ensures
    ∙ ap (λ (ss : StatementsOf ℕ). nat_lt (suc c.args.assignment.now.number) (count (statement_trees ss))) c.statements_at-statements.ensures
