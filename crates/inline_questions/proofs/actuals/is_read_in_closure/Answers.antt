use Rattle.std.proofs.Common.{List, ap, ◌∙◌}
use Rattle.std.specs.List.{list_any}
use Rattle.st_tree.specs.View.{method_of}
use Rattle.placed_nodes.specs.declared.placed.PlacedNode.{PlacedNode}
use Rattle.placed_nodes.specs.Placing.{placed}
use Rattle.inline_questions.specs.Actuals.{is_enclosed}
use Rattle.inline_questions.proofs.Passed.{read-enclosed}
use Rattle.inline_questions.proofs.actuals.is_read_in_closure.Goals as goal

pub returns : goal.returns
returns c =
    let names = c.args.names.now in
    let m = method_of c.args.method.now in
    let x = c.args.formal in
    c.is_any_enclosed.ensures
    ∙ ap (λ (fs : List PlacedNode). list_any (is_enclosed names m x) (placed fs)) c.as_slice.ensures.value
    ∙ ap (list_any (is_enclosed names m x)) c.in_ok-found.ensures
    ∙ read-enclosed names m x
