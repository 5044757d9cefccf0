use Rattle.std.proofs.Common.{ℕ, List, Bor, ap, ◌∙◌}
use Rattle.std.specs.List.{list_any}
use Rattle.tree_model.specs.Tree.{TreeOf}
use Rattle.tree_model.specs.Nodes.{Placed, nodes}
use Rattle.st_tree.specs.View.{sequence_of}
use Rattle.mentions.specs.Listing.{pointed}
use Rattle.commands.specs.Views.{asked_by}
use Rattle.code_questions.proofs.Witnesses.{any-mapped}
use Rattle.method_questions.specs.Supers.{is_sought}
use Rattle.method_questions.proofs.supers.stands_in.Goals as goal

pub returns : goal.returns
returns c =
    let test = is_sought (asked_by c.args.names.now).is_super c.args.sought.now in
    c.is_among.ensures
    ∙ ap (λ (ns : List (Bor (TreeOf ℕ))). list_any test (pointed ns)) c.as_slice.ensures.value
    ∙ ap (list_any test) c.in_ok-nodes.ensures
    ∙ any-mapped (λ (e : Placed ℕ). e.1) test (nodes (sequence_of c.args.tree.now.body))
