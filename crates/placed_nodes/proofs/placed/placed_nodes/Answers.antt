use Rattle.std.proofs.Common.{◌++◌, ◌∙◌}
use Rattle.st_tree.specs.View.{statements_of}
use Rattle.placed_nodes.specs.Placing.{placed, in_statements}
use Rattle.placed_nodes.proofs.Stepped.{all-nodes}
use Rattle.placed_nodes.proofs.placed.placed_nodes.Goals as goal

pub returns : goal.returns
returns c =
    c.in_ok-put_statements.ensures.found
    ∙ (λ j. placed (c.new-found.ensures.items j) ++ in_statements (c.new-path.ensures.items j) 0 (statements_of (c.as_slice.ensures j)))
    ∙ all-nodes (statements_of c.args.body.now.statements)
