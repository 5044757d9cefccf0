-- Statements that a method was made of stand unfolded where they stood before.
use Rattle.std.proofs.Common.{◌≡◌, ℕ, zero, suc, List, Some, refl, subst}
use Rattle.std.specs.Prelude.{Bool}
use Rattle.tree_model.specs.Tree.{TreeOf, StatementsOf, no_statements, more_statements}
use Rattle.tree_model.specs.Path.{nth, statement_trees}
use Rattle.image_model.specs.Means.{MeaningOf}
use Rattle.run_model.specs.Values.{Name}
use Rattle.resolved_model.specs.ResolvedImages.{ResolvedImage}
use Rattle.resolved_model.specs.Environments.{Declared, tree_in, statements_in}
use Rattle.unfolded_calls.specs.Unfolding.{Allowed, Context, Unfolds, UnfoldsBody, at_end, at_line}
use Rattle.unfolded_calls.proofs.Running.{none-some, some-same}
use Rattle.unfolded_places.specs.Inlining.{Filling}
use Rattle.unfolded_places.specs.Fillings.{MayFill, StatementsMayFill}

-- each of them may stand there, where all may
pub may-nth : (z : Filling) (supers : Bool) (gone : Name → Bool) (inner : List Declared) (ss : StatementsOf Name) (k : ℕ) (t : TreeOf Name) → StatementsMayFill z supers gone inner ss → nth (statement_trees ss) k ≡ Some t → MayFill z supers gone inner t
may-nth z supers gone inner no_statements k t may e = none-some e
may-nth z supers gone inner (more_statements c u ss) zero t may e = subst (MayFill z supers gone inner) (some-same e) may.0
may-nth z supers gone inner (more_statements c u ss) (suc k) t may e = may-nth z supers gone inner ss k t may.1 e

-- all unfold, where each does
pub run-body : (i : ResolvedImage) (gone : Allowed) (g : Context) (before after : Name → MeaningOf Name) (own round : List Declared) (ss : StatementsOf Name) →
    ((k : ℕ) (t : TreeOf Name) → nth (statement_trees ss) k ≡ Some t → Unfolds i gone g (tree_in before own t) (tree_in after round t)) → UnfoldsBody i gone g (statements_in before own ss) (statements_in after round ss)
run-body i gone g before after own round no_statements h = at_end
run-body i gone g before after own round (more_statements c t ss) h = at_line (h 0 t refl) (run-body i gone g before after own round ss (λ k u e. h (suc k) u e))
