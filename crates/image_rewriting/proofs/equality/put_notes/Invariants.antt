use Rattle.std.proofs.Common.{◌≡◌, ◌++◌, drop}
use Rattle.st_tree.specs.View.{statements_of}
use Rattle.rewrite_model.specs.Notes.{statement_notes}
use Rattle.image_rewriting.specs.Equal.{noted}
use Rattle.image_rewriting.proofs.equality.put_notes.Given as goal

abbrev pub invariant-loop-statement : goal.invariant-loop-statement
invariant-loop-statement l =
    noted l.found.items ++ statement_notes (statements_of (drop l.statement-index l.statements)) l.tail
    ≡ noted l.initial.found.items ++ statement_notes (statements_of l.statements) l.tail
