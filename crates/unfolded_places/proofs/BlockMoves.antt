-- Statements with other statements in one block unfold where these do and temporaries that no closure assigns are steady.
use Rattle.std.proofs.Common.{◌≡◌, ℕ, List, [], ◌∷◌, ◌++◌, Option, Some, None, refl, ap, ◌∙◌}
use Rattle.std.specs.Prelude.{Bool, false, option_map, option_and_then, unwrap_or}
use Rattle.scope_model.specs.SpecialNames.{control_form}
use Rattle.scope_model.specs.Control.{is_plain_block, is_control}
use Rattle.scope_model.specs.Scope.{PlacedScope, entered}
use Rattle.tree_model.specs.Tree.{TreeOf, block, StatementsOf, Notes}
use Rattle.tree_model.specs.Path.{nth, statement_trees, child, part_at, statements_replaced}
use Rattle.image_model.specs.ImageNames.{OptionNames}
use Rattle.image_model.specs.Means.{MeaningOf}
use Rattle.run_model.specs.Values.{Name}
use Rattle.resolved_model.specs.ResolvedImages.{ResolvedImage}
use Rattle.resolved_model.specs.Environments.{opened, declared_in, statements_in}
use Rattle.unfolded_calls.specs.Unfolding.{Allowed, Context, UnfoldsLines}
use Rattle.unfolded_calls.specs.SameContexts.{IsOutside}
use Rattle.unfolded_calls.specs.SendsOnly.{StatementsSendOnly}
use Rattle.unfolded_calls.proofs.Running.{none-some}
use Rattle.unfolded_places.proofs.Congruence.{ControlLaw}
use Rattle.unfolded_places.proofs.Replaced.{control-child}
use Rattle.unfolded_places.proofs.InlinedOne.{child-again}
use Rattle.unfolded_places.proofs.UsesApart.{uses_of_lines}
use Rattle.unfolded_places.proofs.StandsThere.{Stands}
use Rattle.unfolded_places.proofs.MovesAlong.{Even, EvenAmong, scope-moves, statements-pair}

-- other statements make a block none, and make none one
plain-alike : (ps ts : List Name) (us us' : StatementsOf Name) (e e' : Notes) → is_plain_block (block ps ts us e) ≡ is_plain_block (block ps ts us' e')
plain-alike [] ts us us' e e' = refl
plain-alike (p ∷ ps) ts us us' e e' = refl

-- the node above a place is a control send as it was, where another node stands there that is a block as the first one is, or none as it
even-alike : (path : List ℕ) (t w v : TreeOf Name) → part_at t path ≡ Some w → is_plain_block v ≡ is_plain_block w → Even t path v
even-alike [] t w v e q = tt
even-alike (k ∷ []) t w v e q = control-child t k v w q ∙ ap (is_control control_form) (child-again t k w (one (child t k) e))
  where
    one : (o : Option (TreeOf Name)) → option_and_then (λ c. part_at c []) o ≡ Some w → o ≡ Some w
    one None z = none-some z
    one (Some c) z = z
even-alike (k ∷ j ∷ ks) t w v e q = by (child t k) e (λ c r. even-alike (j ∷ ks) c w v r q)
  where
    by : (o : Option (TreeOf Name)) → option_and_then (λ c. part_at c (j ∷ ks)) o ≡ Some w → ((c : TreeOf Name) → part_at c (j ∷ ks) ≡ Some w → Even c (j ∷ ks) v) → OptionNames (λ c. Even c (j ∷ ks) v) o
    by None r ih = tt
    by (Some c) r ih = ih c r

among-alike : (k : ℕ) (ks : List ℕ) (ss : StatementsOf Name) (w v : TreeOf Name) → option_and_then (λ c. part_at c ks) (nth (statement_trees ss) k) ≡ Some w → is_plain_block v ≡ is_plain_block w → EvenAmong ss (k ∷ ks) v
among-alike k ks ss w v e q = by (nth (statement_trees ss) k) e
  where
    by : (o : Option (TreeOf Name)) → option_and_then (λ c. part_at c ks) o ≡ Some w → OptionNames (λ c. Even c ks v) o
    by None r = tt
    by (Some c) r = even-alike ks c w v r q

module _ (control : ControlLaw) (i : ResolvedImage) (gone : Allowed) (outer : Name → MeaningOf Name) (outside : (n : Name) → IsOutside (outer n)) (place : Option (Name × Bool)) where
  pub block-moved : (k : ℕ) (ks : List ℕ) (g : Context) (C : List (PlacedScope Name)) (rs : StatementsOf Name) (d : ℕ) (ps ts : List Name) (ss us vs : StatementsOf Name) (e e' f : Notes) → option_and_then (λ c. part_at c ks) (nth (statement_trees rs) k) ≡ Some (block ps ts ss f) →
      Stands i gone outer outside place g C (uses_of_lines rs) → StatementsSendOnly (λ s. gone.is_gone s ≡ false) rs →
      ((z : Context) → Stands i gone outer outside place z ((d, record { arguments = ps; temporaries = ts; statements = ss }) ∷ (unwrap_or (option_map (λ c. entered 1 c ks) (nth (statement_trees rs) k)) [] ++ C)) (uses_of_lines ss) →
      UnfoldsLines i gone z (statements_in outer (opened ps ts (declared_in (unwrap_or (option_map (λ c. entered 1 c ks) (nth (statement_trees rs) k)) [] ++ C))) us) (statements_in outer (opened ps ts (declared_in (unwrap_or (option_map (λ c. entered 1 c ks) (nth (statement_trees rs) k)) [] ++ C))) vs)) →
      UnfoldsLines i gone g (statements_in outer (declared_in C) (statements_replaced rs (k ∷ ks) (block ps ts us e))) (statements_in outer (declared_in C) (statements_replaced rs (k ∷ ks) (block ps ts vs e')))
  block-moved k ks g C rs d ps ts ss us vs e e' f at h sent lines =
      statements-pair control i gone outer outside place (block ps ts us e) (block ps ts vs e') k ks g C rs (block ps ts ss f) at h sent
      (among-alike k ks rs (block ps ts ss f) (block ps ts us e) at (plain-alike ps ts us ss e f)) (among-alike k ks rs (block ps ts ss f) (block ps ts vs e') at (plain-alike ps ts vs ss e' f))
      (λ in_place z r. scope-moves control i gone outer outside place (unwrap_or (option_map (λ c. entered 1 c ks) (nth (statement_trees rs) k)) [] ++ C) d ts ss us vs in_place z ps f lines r)
