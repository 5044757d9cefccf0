use Rattle.std.proofs.Common.{ℕ, List, ◌++◌, Bor, sym, ap, ◌∙◌}
use Rattle.tree_model.specs.Tree.{TreeOf}
use Rattle.st_tree.specs.View.{statements_of, sequence_of}
use Rattle.st_tree.specs.declared.tree.Statement.{Statement}
use Rattle.mentions.specs.NodeLists.{nodes_in_statements}
use Rattle.mentions.specs.Listing.{pointed}
use Rattle.mentions.proofs.Pathless.{trees-nodes}
use Rattle.mentions.proofs.walk.nodes_of.Goals as goal

pub returns : goal.returns
returns c =
    c.in_ok-put_statements.ensures
    ∙ ap (λ (rs : List (Bor (TreeOf ℕ))). pointed rs ++ nodes_in_statements (statements_of c.as_slice.result.now)) c.new-found.ensures.items
    ∙ ap (λ (ss : List Statement). nodes_in_statements (statements_of ss)) c.as_slice.ensures
    ∙ sym (trees-nodes (sequence_of c.args.body.now))
