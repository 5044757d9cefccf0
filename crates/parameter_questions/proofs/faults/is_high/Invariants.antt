use Rattle.std.proofs.Common.{◌≡◌, drop, nat_le}
use Rattle.tree_model.specs.Measure.{statements_height}
use Rattle.st_tree.specs.View.{statements_of}
use Rattle.parameter_questions.proofs.faults.is_high.Given as goal

abbrev pub invariant-loop-statement : goal.invariant-loop-statement
invariant-loop-statement l = nat_le (statements_height (statements_of (drop l.statement-index l.body.statements))) 200 ≡ nat_le (statements_height (statements_of l.body.statements)) 200
