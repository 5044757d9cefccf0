use Rattle.std.proofs.Common.{Some, sym, ◌∙◌}
use Rattle.scope_model.specs.NameTests.{form_in}
use Rattle.st_tree.specs.View.{sequence_of}
use Rattle.part_questions.proofs.Round.{closure-found}
use Rattle.part_questions.proofs.places.is_closure_in.Goals as goal

pub returns-in-Some-statement_node : goal.returns-in-Some-statement_node
returns-in-Some-statement_node c =
    c.is_closure_at.ensures
    ∙ closure-found (form_in c.args.names.now) (sequence_of c.args.body.now) c.args.path.now c.in-Some.rest.now c.in-Some.first.now (Some c.in-Some-statement_node.node.now)
    (sym c.as_slice.ensures ∙ c.in-Some.ensures.cases.0) c.in-Some-statement_node.ensures
