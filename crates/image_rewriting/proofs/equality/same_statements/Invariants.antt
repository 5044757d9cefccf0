use Rattle.std.proofs.Common.{◌≡◌, ◌↔◌, drop}
use Rattle.tree_model.specs.Bare.{bare_statements}
use Rattle.st_tree.specs.View.{statements_of}
use Rattle.image_rewriting.proofs.equality.same_statements.Given as goal

abbrev pub invariant-loop-i : goal.invariant-loop-i
invariant-loop-i l = (bare_statements (statements_of l.a) ≡ bare_statements (statements_of l.b)) ↔ (bare_statements (statements_of (drop l.i l.a)) ≡ bare_statements (statements_of (drop l.i l.b)))
