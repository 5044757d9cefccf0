-- What the program tells of equal trees, and the test.
use Rattle.std.proofs.Common.{◌≡◌, ◌≢◌, ◌⊎◌, inl, inr, ℕ, suc, ◌≤◌, arith, Bool, true, false, List, [], ◌∷◌, length, drop, refl, ap, sym, ◌∙◌}
use Rattle.std.specs.Bool.{◌==◌}
use Rattle.std.specs.Prelude.{nat_eq, IsTrue, ◌↔◌}
use Rattle.std.proofs.Math.Dec.{eqb}
use Rattle.std.proofs.lemmas.Bool.Decides.{eqb_tells}
use Rattle.std.proofs.lemmas.List.{drop_all}
use Rattle.tree_model.specs.Tree.{TreeOf}
use Rattle.tree_model.specs.Bare.{bare}
use Rattle.same_trees.specs.SameTrees.{same_tree, same_statements}
use Rattle.same_trees.proofs.Told.{tree_told, tree_same}
use Rattle.st_tree.specs.declared.tree.Statement.{Statement}
use Rattle.st_tree.specs.View.{statements_of}
use Rattle.class_table.proofs.Live.{eqb-refl, eqb-equal}
use Rattle.code_questions.proofs.Witnesses.{same-truth}

-- trees that are told to be equal but for comments pass
pub told-same : (b : Bool) (t u : TreeOf ℕ) → IsTrue b ↔ (bare t ≡ bare u) → b ≡ same_tree nat_eq t u
told-same b t u h = same-truth b (same_tree nat_eq t u) (λ e. tree_same nat_eq eqb-refl t u (h.0 e)) (λ e. h.1 (tree_told nat_eq eqb-equal t u e))

-- behind the last statement of one list, the other has none left
pub none-left : (xs ys : List Statement) (k : ℕ) → length xs ≤ k → (length ys == 0) ≡ same_statements nat_eq (statements_of (drop k xs)) (statements_of ys)
none-left xs ys k h = by ys ∙ sym (ap (λ (zs : List Statement). same_statements nat_eq (statements_of zs) (statements_of ys)) (drop_all k xs h))
  where
    by : (zs : List Statement) → (length zs == 0) ≡ same_statements nat_eq (statements_of []) (statements_of zs)
    by [] = refl
    by (z ∷ zs) = some (length zs) (eqb_tells (suc (length zs)) 0)
      where
        some : (n : ℕ) → ((eqb (suc n) 0 ≡ true) × (suc n ≡ 0)) ⊎ ((eqb (suc n) 0 ≡ false) × (suc n ≢ 0)) → eqb (suc n) 0 ≡ false
        some n (inl t) = let bad : suc n ≡ 0 = t.1 in absurd (omega arith)
        some n (inr t) = t.0
