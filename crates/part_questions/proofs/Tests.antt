-- Tests of the nodes of a part, and of the number of its statements.
use Rattle.std.proofs.Common.{◌≡◌, ◌≢◌, ◌⊎◌, inl, inr, ℕ, suc, ◌+◌, ◌-◌, ◌<◌, Bool, true, false, not, cond, ◌&&◌, ◌||◌, ltb, List, [], ◌∷◌, length, refl, sym, ap, ◌∙◌, arith}
use Rattle.std.specs.Prelude.{filter}
use Rattle.std.specs.List.{list_any, list_all}
use Rattle.std.proofs.lemmas.Bool.Decides.{leb_tells}
use Rattle.tree_model.specs.Tree.{MethodOf}
use Rattle.tree_model.specs.Path.{count, statement_trees}
use Rattle.scope_model.specs.FreeNames.{statements_at}
use Rattle.st_tree.specs.declared.tree.Statement.{Statement}
use Rattle.st_tree.specs.View.{statements_of}
use Rattle.command_model.specs.Parts.{Run}
use Rattle.command_model.specs.PartConditions.{is_value_unused}

-- a test of the items that are kept
pub any-filtered : {X : Type 0} (kept p : X → Bool) (xs : List X) → list_any (λ x. kept x && p x) xs ≡ list_any p (filter kept xs)
any-filtered kept p [] = refl
any-filtered kept p (x ∷ xs) = by (kept x) (any-filtered kept p xs)
  where
    by : (b : Bool) → list_any (λ y. kept y && p y) xs ≡ list_any p (filter kept xs) → (b && p x || list_any (λ y. kept y && p y) xs) ≡ list_any p (cond b (x ∷ filter kept xs) (filter kept xs))
    by true rest = ap (λ (r : Bool). p x || r) rest
    by false rest = rest

-- a test passes everywhere just if it fails nowhere
pub none-fails : {X : Type 0} (p : X → Bool) (xs : List X) → not (list_any (λ x. not (p x)) xs) ≡ list_all p xs
none-fails p [] = refl
none-fails p (x ∷ xs) = by (p x) (none-fails p xs)
  where
    by : (b : Bool) → not (list_any (λ y. not (p y)) xs) ≡ list_all p xs → not (not b || list_any (λ y. not (p y)) xs) ≡ (b && list_all p xs)
    by true rest = rest
    by false rest = refl

count-statements : (ss : List Statement) → count (statement_trees (statements_of ss)) ≡ length ss
count-statements [] = refl
count-statements (s ∷ ss) = omega (arith, count-statements ss)

-- of two numbers, where so many go before both
fewer : (k n all : ℕ) → ltb n (all - k) ≡ ltb (k + n) all
fewer k n all = by (leb_tells (suc n) (all - k)) (leb_tells (suc (k + n)) all)
  where
    by : ((ltb n (all - k) ≡ true) × (n < all - k)) ⊎ ((ltb n (all - k) ≡ false) × (all - k < suc n))
        → ((ltb (k + n) all ≡ true) × (k + n < all)) ⊎ ((ltb (k + n) all ≡ false) × (all < suc (k + n)))
        → ltb n (all - k) ≡ ltb (k + n) all
    by (inl a) (inl b) = a.0 ∙ sym b.0
    by (inl a) (inr b) = absurd (omega (arith, a.1, b.1))
    by (inr a) (inl b) = absurd (omega (arith, a.1, b.1))
    by (inr a) (inr b) = a.0 ∙ sym b.0

-- neighbouring statements of a block do not end it
pub within-block : (m : MethodOf ℕ) (path : List ℕ) (ss : List Statement) (first n rest : ℕ) → length path ≢ 0 → statements_of ss ≡ statements_at m.body path → rest ≡ length ss - first
    → ltb n rest ≡ is_value_unused m (Run path first n)
within-block m [] ss first n rest h e l = absurd (h refl)
within-block m (k ∷ ks) ss first n rest h e l =
    (λ j. ltb n (l j)) ∙ fewer first n (length ss) ∙ (λ j. ltb (first + n) (sym (count-statements ss) j)) ∙ (λ j. ltb (first + n) (count (statement_trees (e j))))
