-- The test that tells numbers apart.
use Rattle.std.proofs.Common.{◌≡◌, ◌≢◌, ◌⊎◌, inl, inr, ℕ, true, false, nat_eq, refl, sym, ap, ◌∙◌, true≢false}
use Rattle.std.proofs.lemmas.Bool.Decides.{eqb_tells}

-- names that the test finds equal
pub nat_equal : (m n : ℕ) → nat_eq m n ≡ true → m ≡ n
nat_equal m n h = by (eqb_tells m n)
  where
    by : ((nat_eq m n ≡ true) × (m ≡ n)) ⊎ ((nat_eq m n ≡ false) × (m ≢ n)) → m ≡ n
    by (inl t) = t.1
    by (inr t) = absurd (true≢false (sym h ∙ t.0))

-- the test finds a name equal to itself
pub nat_itself : (n : ℕ) → nat_eq n n ≡ true
nat_itself n = by (eqb_tells n n)
  where
    by : ((nat_eq n n ≡ true) × (n ≡ n)) ⊎ ((nat_eq n n ≡ false) × (n ≢ n)) → nat_eq n n ≡ true
    by (inl t) = t.0
    by (inr t) = absurd (t.1 refl)

-- the test decides whether names are equal
pub nat_decides : (m n : ℕ) → (nat_eq m n ≡ true → m ≡ n) × (m ≡ n → nat_eq m n ≡ true)
nat_decides m n = (nat_equal m n, (λ e. ap (nat_eq m) (sym e) ∙ nat_itself m))
