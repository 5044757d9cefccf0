use Rattle.std.proofs.Common.{length, refl, sym}
use Rattle.st_tree.proofs.Putting.{statement_here, statement_past}
use Rattle.part_questions.proofs.places.statement_node.Goals as goal

pub returns-in-Some : goal.returns-in-Some
returns-in-Some c =
    let ss = c.as_slice.result.now in
    sym (statement_here ss c.args.body.now.statements c.args.at (length ss) c.in-Some.statement.now c.as_slice.ensures refl c.in-Some.ensures.lookup.3.0 c.in-Some.ensures.lookup.1)

pub returns-in-None : goal.returns-in-None
returns-in-None c =
    let ss = c.as_slice.result.now in
    sym (statement_past ss c.args.body.now.statements c.args.at (length ss) c.as_slice.ensures refl c.in-None.ensures.lookup.3)
