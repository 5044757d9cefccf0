-- The order of texts, byte by byte.
use Rattle.std.proofs.Common.{◌≡◌, ℕ, Bool, true, false, ◌&&◌, ◌||◌, ◌==◌, cond, nat_lt, List, [], ◌∷◌, Some, refl}
use Rattle.std.specs.Ordering.{nat_cmp, is_lt, is_some_and, partial_ordering_then}
use Rattle.std.specs.declared.cmp.Ordering.TheVariants.{Less, Equal, Greater}
use Rattle.std.specs.Cmp.Lexicographic.{slice_partial_cmp}
use Rattle.run_model.specs.SequencePrimitives.{is_before}

pub lt_before : (s t : List ℕ) → is_some_and is_lt (slice_partial_cmp (λ x y. Some (nat_cmp x y)) s t) ≡ is_before s t
lt_before [] [] = refl
lt_before [] (b ∷ t) = refl
lt_before (a ∷ s) [] = refl
lt_before (a ∷ s) (b ∷ t) = by (nat_lt a b) (a == b) (lt_before s t)
  where
    by : (p q : Bool) → is_some_and is_lt (slice_partial_cmp (λ x y. Some (nat_cmp x y)) s t) ≡ is_before s t → is_some_and is_lt (partial_ordering_then (Some (cond p Less (cond q Equal Greater))) (slice_partial_cmp (λ x y. Some (nat_cmp x y)) s t)) ≡ (p || q && is_before s t)
    by true q ih = refl
    by false true ih = ih
    by false false ih = refl
