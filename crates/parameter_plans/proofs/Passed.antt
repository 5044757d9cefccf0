-- What is passed after.
use Rattle.std.proofs.Common.{◌≡◌, ℕ, zero, suc, ◌-◌, List, [], ◌∷◌, ◌++◌, take, drop, refl, sym, ap, ◌∙◌}
use Rattle.std.specs.List.{remove}
use Rattle.std.specs.Borrow.{Bor}
use Rattle.tree_model.specs.Tree.{TreeOf, no_trees, more_trees, trees_of}
use Rattle.tree_model.specs.Path.{append}
use Rattle.commands.specs.declared.command.NewParameter.{NewParameter}
use Rattle.command_model.specs.Parameters.{without_nth}
use Rattle.command_model.specs.Plain.{literal_node}
use Rattle.parameter_plans.specs.declared.given.ParameterChange.{ParameterChange}
use Rattle.parameter_plans.specs.declared.given.ParameterChange.TheVariants as given
use Rattle.parameter_plans.specs.Given.{passed_after}

-- one more tree at the end
trees_of-push : (ts : List (TreeOf ℕ)) (t : TreeOf ℕ) → trees_of (ts ++ t ∷ []) ≡ append (trees_of ts) (more_trees t no_trees)
trees_of-push [] t = refl
trees_of-push (u ∷ ts) t = ap (more_trees u) (trees_of-push ts t)

-- without the tree of a number
trees_of-remove : (ts : List (TreeOf ℕ)) (k : ℕ) → trees_of (take k ts ++ drop (suc k) ts) ≡ without_nth k (trees_of ts)
trees_of-remove [] zero = refl
trees_of-remove [] (suc k) = refl
trees_of-remove (t ∷ ts) zero = refl
trees_of-remove (t ∷ ts) (suc k) = ap (more_trees t) (trees_of-remove ts k)

-- a literal more
pub passes-one_more : (p : ParameterChange) (n : Bor NewParameter) (before after : List (TreeOf ℕ)) (item : TreeOf ℕ) → p ≡ given.Added n → item ≡ literal_node n.now.passed → after ≡ before ++ item ∷ []
    → trees_of after ≡ passed_after p (trees_of before)
passes-one_more p n before after item is node pushed =
    ap trees_of (pushed ∙ ap (λ (t : TreeOf ℕ). before ++ t ∷ []) node) ∙ trees_of-push before (literal_node n.now.passed) ∙ ap (λ (q : ParameterChange). passed_after q (trees_of before)) (sym is)

-- one less
pub passes-one_less : (p : ParameterChange) (s k t : ℕ) (before after : List (TreeOf ℕ)) → p ≡ given.Removed s k t → after ≡ remove before (k - 1) → trees_of after ≡ passed_after p (trees_of before)
passes-one_less p s k t before after is gone = ap trees_of gone ∙ trees_of-remove before (k - 1) ∙ ap (λ (q : ParameterChange). passed_after q (trees_of before)) (sym is)
