use Rattle.std.proofs.Common.{◌≡◌, ◌++◌, drop}
use Rattle.st_tree.specs.View.{statements_of}
use Rattle.pattern_model.specs.MatchTree.{numbered_statements}
use Rattle.pattern_match.specs.Gathering.{parts_from, under}
use Rattle.pattern_match.proofs.walk.put_run.Given as goal

abbrev pub invariant-loop-statement : goal.invariant-loop-statement
invariant-loop-statement l =
    parts_from l.parts.items ++ under l.walk.steps.items (numbered_statements l.step (statements_of (drop l.statement-index l.run))) ≡ under l.walk.steps.items (numbered_statements l.first (statements_of l.run))
