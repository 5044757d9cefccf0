use Rattle.std.proofs.Common.{ap, sym, ◌∙◌}
use Rattle.tree_model.specs.Path.{replaced_in}
use Rattle.scope_model.specs.NameTests.{form_in}
use Rattle.st_tree.specs.View.{sequence_of, statements_of}
use Rattle.inline_questions.proofs.Above.{control-alone}
use Rattle.inline_questions.proofs.control.is_control_with.Goals as goal

pub returns : goal.returns
returns c =
    c.is_control.ensures
    ∙ control-alone (form_in c.args.names.now) c.args.above.now c.args.step c.args.node.now (sequence_of c.in_ok-body.body) (sequence_of c.put_at_doit.new.body) c.in_ok-second_path.field-0 c.in-Some.statement.now c.in-Some.field-0-1.now
    c.in_ok-body.ensures c.in_ok-second_path.ensures
    (c.put_at_doit.ensures.after ∙ ap (replaced_in (sequence_of c.in_ok-body.body) c.in_ok-second_path.field-0) c.in_ok-try_copy.ensures)
    (ap statements_of (sym c.as_slice.ensures ∙ c.in-Some.ensures.cases.0))
