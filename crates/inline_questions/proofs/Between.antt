-- Whole statements that do not end a block, as lists.
use Rattle.std.proofs.Common.{◌≡◌, ◌≢◌, ◌⊎◌, inl, inr, ltb, eqb, ◌==◌, ◌<◌, ℕ, suc, ◌+◌, ◌-◌, Bool, true, false, ◌||◌, List, [], ◌∷◌, length, Option, Some, refl, sym, ap, ◌∙◌, arith, add-one}
use Rattle.std.specs.Prelude.{nat_lt}
use Rattle.std.specs.Option.{option_map_or}
use Rattle.std.proofs.lemmas.Bool.Decides.{leb_tells, eqb_tells}
use Rattle.tree_model.specs.Tree.{StatementsOf, MethodOf}
use Rattle.tree_model.specs.Path.{count, statement_trees}
use Rattle.scope_model.specs.FreeNames.{statements_at}
use Rattle.st_tree.specs.View.{statements_of}
use Rattle.st_tree.specs.declared.tree.Statement.{Statement}
use Rattle.command_model.specs.Places.{innermost, sequence_round, whole_statement}
use Rattle.inline_questions.specs.Bound.{is_statement_between}

-- as many trees as statements
count-statements : (xs : List Statement) → count (statement_trees (statements_of xs)) ≡ length xs
count-statements [] = refl
count-statements (x ∷ xs) = ap (λ n. n + 1) (count-statements xs) ∙ add-one (length xs)

-- a number before the last one
before-last : (k n : ℕ) → ltb k (n - 1) ≡ ltb (suc k) n
before-last k n = by (leb_tells (suc k) (n - 1)) (leb_tells (suc (suc k)) n)
  where
    by : ((ltb k (n - 1) ≡ true) × (k < n - 1)) ⊎ ((ltb k (n - 1) ≡ false) × (n - 1 < suc k))
        → ((ltb (suc k) n ≡ true) × (suc k < n)) ⊎ ((ltb (suc k) n ≡ false) × (n < suc (suc k)))
        → ltb k (n - 1) ≡ ltb (suc k) n
    by (inl a) (inl b) = a.0 ∙ sym b.0
    by (inl a) (inr b) = absurd (omega (arith, a.1, b.1))
    by (inr a) (inl b) = absurd (omega (arith, a.1, b.1))
    by (inr a) (inr b) = a.0 ∙ sym b.0

-- no number is 0 but 0
pub zero-told : (n : ℕ) → n ≢ 0 → (n == 0) ≡ false
zero-told n h = by (eqb_tells n 0)
  where
    by : ((eqb n 0 ≡ true) × (n ≡ 0)) ⊎ ((eqb n 0 ≡ false) × (n ≢ 0)) → (n == 0) ≡ false
    by (inl a) = absurd (h a.1)
    by (inr a) = a.0

module _ (m : MethodOf ℕ) (path : List ℕ) where
  abbrev last_there : StatementsOf ℕ → ℕ → Bool
  last_there ss k = nat_lt (suc k) (count (statement_trees ss))

  between : (k : ℕ) → Some k ≡ whole_statement m path → (innermost m path == 0 || last_there (statements_at m.body (sequence_round m path)) k) ≡ is_statement_between m path
  between k w = ap (λ (o : Option ℕ). option_map_or (λ k. innermost m path == 0 || last_there (statements_at m.body (sequence_round m path)) k) o false) w

  -- a statement of a block
  pub inside : (k n : ℕ) (round : List ℕ) (xs : List Statement) → Some k ≡ whole_statement m path → n ≡ innermost m path → n ≢ 0 → round ≡ sequence_round m path
      → statements_of xs ≡ statements_at m.body round → nat_lt k (length xs - 1) ≡ is_statement_between m path
  inside k n round xs w e z r s =
      before-last k (length xs)
      ∙ ap (nat_lt (suc k)) (sym (count-statements xs))
      ∙ ap (λ (ss : StatementsOf ℕ). last_there ss k) (s ∙ ap (λ (p : List ℕ). statements_at m.body p) r)
      ∙ ap (λ b. b || last_there (statements_at m.body (sequence_round m path)) k) (sym (zero-told n z) ∙ ap (λ j. j == 0) e)
      ∙ between k w
