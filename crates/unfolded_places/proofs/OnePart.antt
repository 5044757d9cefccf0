-- Statements of which one part unfolds to another.
use Rattle.std.proofs.Common.{◌≡◌, ℕ, List, Option, refl, sym, subst}
use Rattle.std.specs.Prelude.{Bool, false}
use Rattle.tree_model.specs.Tree.{TreeOf, StatementsOf}
use Rattle.tree_model.specs.Path.{statements_replaced}
use Rattle.image_model.specs.Means.{MeaningOf}
use Rattle.run_model.specs.Values.{Name}
use Rattle.resolved_model.specs.ResolvedImages.{ResolvedImage}
use Rattle.resolved_model.specs.ResolvedShapes.{plain_code}
use Rattle.resolved_model.specs.Environments.{Declared, tree_in, statements_in}
use Rattle.unfolded_calls.specs.Unfolding.{Allowed, Context, Unfolds, UnfoldsLines}
use Rattle.unfolded_calls.specs.SendsOnly.{StatementsSendOnly}
use Rattle.unfolded_calls.specs.SameContexts.{IsOutside}
use Rattle.unfolded_places.specs.PartsReplaced.{no_stores, parts_changed, declared_among, StaysMessageAmong}
use Rattle.unfolded_places.specs.Standing.{IsHere, PartsUnfold}
use Rattle.unfolded_places.proofs.ShapePairs.{CodePair}
use Rattle.unfolded_places.proofs.Congruence.{ControlLaw, lines-become}
use Rattle.unfolded_places.proofs.Unchanged.{PartsPaired, kept-here}
use Rattle.unfolded_places.proofs.Replaced.{statements-become}

-- the one part
record IsPart (E : List Declared) (v u : TreeOf Name) (A : List Declared) (t w : TreeOf Name) : Type 0 where
  around : A ≡ E
  before : t ≡ v
  after : w ≡ u

module _ (control : ControlLaw) (i : ResolvedImage) (gone : Allowed) (outer : Name → MeaningOf Name) (outside : (n : Name) → IsOutside (outer n)) (place : Option (Name × Bool)) where
  pub one-part : (around : List Declared) (ss : StatementsOf Name) (path : List ℕ) (v u : TreeOf Name) →
      StatementsSendOnly (λ s. gone.is_gone s ≡ false) ss → StaysMessageAmong ss path v u →
      ((g : Context) → IsHere place g (declared_among around ss path) (declared_among around ss path) → CodePair i gone g (plain_code (tree_in outer (declared_among around ss path) v)) (plain_code (tree_in outer (declared_among around ss path) u))) →
      ((g : Context) → IsHere place g (declared_among around ss path) (declared_among around ss path) → Unfolds i gone g (tree_in outer (declared_among around ss path) v) (tree_in outer (declared_among around ss path) u)) →
      (g : Context) → IsHere place g around around →
      UnfoldsLines i gone g (statements_in outer around (statements_replaced ss path v)) (statements_in outer around (statements_replaced ss path u))
  one-part around ss path v u sent still paired unfolds g h =
      lines-become control i gone (parts_changed here gone.is_gone) outer outer (IsHere place) (kept-here i gone outer outside here no_stores place control parts pairs (λ g A s n t x h e. absurd e))
      g around around (statements_replaced ss path v) (statements_replaced ss path u) h (statements-become here no_stores gone.is_gone around ss path v u sent still (record { around = refl; before = refl; after = refl }))
    where
      E : List Declared
      E = declared_among around ss path

      here : List Declared → TreeOf Name → TreeOf Name → Type 0
      here = IsPart (declared_among around ss path) v u

      parts : PartsUnfold i gone outer (IsPart (declared_among around ss path) v u) place
      parts g A t w h x =
          let k : IsHere place g (declared_among around ss path) (declared_among around ss path) = subst (λ C. IsHere place g C C) x.around h in
          subst (λ y. Unfolds i gone g (tree_in outer A y) (tree_in outer A w)) (sym x.before)
          (subst (λ y. Unfolds i gone g (tree_in outer A v) (tree_in outer A y)) (sym x.after)
          (subst (λ C. Unfolds i gone g (tree_in outer C v) (tree_in outer C u)) (sym x.around) (unfolds g k)))

      pairs : PartsPaired i gone outer outside (IsPart (declared_among around ss path) v u) no_stores place
      pairs g A t w h x =
          let k : IsHere place g (declared_among around ss path) (declared_among around ss path) = subst (λ C. IsHere place g C C) x.around h in
          subst (λ y. CodePair i gone g (plain_code (tree_in outer A y)) (plain_code (tree_in outer A w))) (sym x.before)
          (subst (λ y. CodePair i gone g (plain_code (tree_in outer A v)) (plain_code (tree_in outer A y))) (sym x.after)
          (subst (λ C. CodePair i gone g (plain_code (tree_in outer C v)) (plain_code (tree_in outer C u))) (sym x.around) (paired g k)))
