-- Whether a statement has another one behind it.
use Rattle.std.proofs.Common.{◌≡◌, ◌⊎◌, inl, inr, ℕ, suc, ◌+◌, ◌-◌, ◌<◌, ◌≤◌, Bool, true, false, leb, ltb, List, [], ◌∷◌, length, refl, sym, ap, ◌∙◌, arith}
use Rattle.std.specs.Prelude.{nat_lt}
use Rattle.std.proofs.lemmas.Bool.Decides.{leb_tells}
use Rattle.tree_model.specs.Path.{count, statement_trees}
use Rattle.st_tree.specs.View.{statements_of}
use Rattle.st_tree.specs.declared.tree.Statement.{Statement}

count-statements : (ss : List Statement) → count (statement_trees (statements_of ss)) ≡ length ss
count-statements [] = refl
count-statements (s ∷ ss) = omega (arith, count-statements ss)

-- a number below one less than another, and the next number below that
below-last : (n all : ℕ) → nat_lt n (all - 1) ≡ nat_lt (suc n) all
below-last n all = by (leb_tells (suc n) (all - 1)) (leb_tells (suc (suc n)) all)
  where
    by : ((leb (suc n) (all - 1) ≡ true) × (suc n ≤ all - 1)) ⊎ ((leb (suc n) (all - 1) ≡ false) × (all - 1 < suc n))
        → ((leb (suc (suc n)) all ≡ true) × (suc (suc n) ≤ all)) ⊎ ((leb (suc (suc n)) all ≡ false) × (all < suc (suc n)))
        → nat_lt n (all - 1) ≡ nat_lt (suc n) all
    by (inl a) (inl b) = a.0 ∙ sym b.0
    by (inr a) (inr b) = a.0 ∙ sym b.0
    by (inl a) (inr b) = absurd (omega (arith, a.1, b.1))
    by (inr a) (inl b) = absurd (omega (arith, a.1, b.1))

pub followed : (n last : ℕ) (ss : List Statement) → last ≡ length ss - 1 → nat_lt n last ≡ nat_lt (suc n) (count (statement_trees (statements_of ss)))
followed n last ss is = ap (nat_lt n) is ∙ below-last n (length ss) ∙ ap (nat_lt (suc n)) (sym (count-statements ss))
