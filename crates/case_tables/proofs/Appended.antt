-- What a loop appends, from what is still to be appended.
use Rattle.std.proofs.Common.{◌≡◌, ℕ, suc, ◌+◌, ◌-◌, ◌<◌, List, ◌++◌, sym, ap, ◌∙◌, append_assoc, arith}
use Rattle.case_tables.specs.CaseTexts.{repeated, counted, with_number}

one_less : (n k : ℕ) → k < n → n - k ≡ suc (n - (k + 1))
one_less n k below = omega (arith, below)

-- one more time
pub repeated_more : (n k : ℕ) (bytes into new all : List ℕ) → k < n → new ≡ into ++ bytes → into ++ repeated (n - k) bytes ≡ all → new ++ repeated (n - (k + 1)) bytes ≡ all
repeated_more n k bytes into new all below e left =
    ap (λ l. l ++ repeated (n - (k + 1)) bytes) e ∙ append_assoc into bytes (repeated (n - (k + 1)) bytes) ∙ ap (λ m. into ++ repeated m bytes) (sym (one_less n k below)) ∙ left

-- one more number
pub counted_more : (n k : ℕ) (bytes into new all : List ℕ) → k < n → new ≡ into ++ with_number k bytes → into ++ counted k (n - k) bytes ≡ all → new ++ counted (k + 1) (n - (k + 1)) bytes ≡ all
counted_more n k bytes into new all below e left =
    ap (λ l. l ++ counted (k + 1) (n - (k + 1)) bytes) e ∙ append_assoc into (with_number k bytes) (counted (k + 1) (n - (k + 1)) bytes) ∙ ap (λ m. into ++ counted k m bytes) (sym (one_less n k below)) ∙ left
