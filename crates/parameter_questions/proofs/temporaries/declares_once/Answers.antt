use Rattle.std.proofs.Common.{ℕ, List, Bor, length, ap, ◌∙◌}
use Rattle.std.specs.Prelude.{nat_eq, filter, ◌==◌}
use Rattle.tree_model.specs.Tree.{TreeOf}
use Rattle.mentions.specs.Listing.{pointed}
use Rattle.st_tree.specs.View.{method_of}
use Rattle.parameter_questions.proofs.Declared.{declared-there}
use Rattle.parameter_questions.proofs.temporaries.declares_once.Goals as goal

pub returns : goal.returns
returns c =
    c.is_once.ensures
    ∙ ap (λ (xs : List ℕ). length (filter (nat_eq c.args.name) xs) == 1)
    (c.as_slice-2.ensures ∙ c.in_ok-declared.ensures
    ∙ declared-there (method_of c.args.tree.now) c.as_slice.result.now (ap (λ (ns : List (Bor (TreeOf ℕ))). pointed ns) c.as_slice.ensures.value ∙ c.in_ok-nodes.ensures))
