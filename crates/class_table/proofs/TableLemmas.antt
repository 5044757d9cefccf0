-- Keys of methods are told apart.
use Rattle.std.proofs.Common.{◌≡◌, ◌≢◌, ◌⊎◌, inl, inr, Bool, true, false, ◌&&◌, refl, ap}
use Rattle.std.specs.Prelude.{nat_eq}
use Rattle.std.specs.Bool.{beq}
use Rattle.std.proofs.lemmas.Bool.Decides.{eqb_tells}
use Rattle.class_table.specs.declared.tables.MethodKey.{MethodKey}
use Rattle.class_table.specs.Finding.{same_key}

-- a test that tells whether two things are one
abbrev pub Tells : {K : Type 0} → (K → K → Bool) → Type 0
Tells {K} same = (a b : K) → ((same a b ≡ true) × (a ≡ b)) ⊎ ((same a b ≡ false) × (a ≢ b))

-- sides are told apart
pub beq_tells : (a b : Bool) → ((beq a b ≡ true) × (a ≡ b)) ⊎ ((beq a b ≡ false) × (a ≢ b))
beq_tells true true = inl (refl, refl)
beq_tells true false = inr (refl, λ e. cc)
beq_tells false true = inr (refl, λ e. cc)
beq_tells false false = inl (refl, refl)

-- keys of methods are told apart
pub same_key_tells : Tells same_key
same_key_tells a b = by (eqb_tells a.class b.class) (beq_tells a.meta b.meta) (eqb_tells a.selector b.selector)
  where
    by : ((nat_eq a.class b.class ≡ true) × (a.class ≡ b.class)) ⊎ ((nat_eq a.class b.class ≡ false) × (a.class ≢ b.class))
        → ((beq a.meta b.meta ≡ true) × (a.meta ≡ b.meta)) ⊎ ((beq a.meta b.meta ≡ false) × (a.meta ≢ b.meta))
        → ((nat_eq a.selector b.selector ≡ true) × (a.selector ≡ b.selector)) ⊎ ((nat_eq a.selector b.selector ≡ false) × (a.selector ≢ b.selector))
        → ((same_key a b ≡ true) × (a ≡ b)) ⊎ ((same_key a b ≡ false) × (a ≢ b))
    by (inl c) (inl m) (inl s) = inl ((λ i. c.0 i && (m.0 i && s.0 i)), λ i. record { class = c.1 i; meta = m.1 i; selector = s.1 i })
    by (inl c) (inl m) (inr s) = inr ((λ i. c.0 i && (m.0 i && s.0 i)), λ e. s.1 (ap (λ (k : MethodKey). k.selector) e))
    by (inl c) (inr m) s = inr ((λ i. c.0 i && (m.0 i && nat_eq a.selector b.selector)), λ e. m.1 (ap (λ (k : MethodKey). k.meta) e))
    by (inr c) m s = inr ((λ i. c.0 i && (beq a.meta b.meta && nat_eq a.selector b.selector)), λ e. c.1 (ap (λ (k : MethodKey). k.class) e))
