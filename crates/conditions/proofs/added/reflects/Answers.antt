use Rattle.std.proofs.Common.{ℕ, List, Bor, Bool, ap, ◌∙◌}
use Rattle.std.specs.List.{list_any}
use Rattle.tree_model.specs.Tree.{TreeOf}
use Rattle.tree_model.specs.Nodes.{Placed, nodes}
use Rattle.st_tree.specs.View.{sequence_of}
use Rattle.mentions.specs.Listing.{pointed}
use Rattle.rename_model.specs.Conditions.{is_reflective}
use Rattle.command_model.specs.Numbers.{number_command_words}
use Rattle.code_questions.proofs.Witnesses.{any-mapped}
use Rattle.conditions.proofs.added.reflects.Goals as goal

pub returns : goal.returns
returns c =
    let test : TreeOf ℕ → Bool = is_reflective (number_command_words c.args.names.now) in
    c.is_any_reflective.ensures
    ∙ ap (λ (ns : List (Bor (TreeOf ℕ))). list_any test (pointed ns)) c.as_slice.ensures.value
    ∙ ap (list_any test) c.in_ok-nodes.ensures
    ∙ any-mapped (λ (e : Placed ℕ). e.1) test (nodes (sequence_of c.args.body.now))
