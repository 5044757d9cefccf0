use Rattle.std.proofs.Common.{◌≡◌, drop}
use Rattle.std.specs.Prelude.{nat_eq}
use Rattle.same_trees.specs.SameTrees.{same_statements}
use Rattle.st_tree.specs.View.{statements_of}
use Rattle.method_questions.proofs.same.same_statements.Given as goal

abbrev pub invariant-loop-statement : goal.invariant-loop-statement
invariant-loop-statement l =
    same_statements nat_eq (statements_of (drop l.statement-index l.statements)) (statements_of l.rest) ≡ same_statements nat_eq (statements_of l.statements) (statements_of l.fn.others)
