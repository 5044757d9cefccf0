use Rattle.std.proofs.Common.{ap, ◌∙◌}
use Rattle.st_tree.specs.View.{statements_of}
use Rattle.st_scope.proofs.Runs.{statements_of-drop, take-rest}
use Rattle.extracted_code.proofs.statements.from_number.Goals as goal

pub returns-then-first-statements : goal.returns-then-first-statements
returns-then-first-statements c =
    ap statements_of (take-rest c.args.first c.args.statements.now) ∙ statements_of-drop c.args.first c.args.statements.now
