use Rattle.std.proofs.Common.{◌≡◌, ◌++◌, drop}
use Rattle.tree_model.specs.Path.{statement_trees}
use Rattle.st_tree.specs.View.{statements_of}
use Rattle.pattern_model.specs.MatchTree.{numbered}
use Rattle.pattern_match.specs.Gathering.{parts_from}
use Rattle.pattern_match.proofs.searching.put_statements.Given as goal

abbrev pub invariant-loop-statement : goal.invariant-loop-statement
invariant-loop-statement l = parts_from l.parts.items ++ numbered l.step (statement_trees (statements_of (drop l.statement-index l.statements))) ≡ parts_from l.initial.parts.items ++ numbered 0 (statement_trees (statements_of l.statements))
