-- One step of a walk up a chain.
use Rattle.std.proofs.Common.{◌≡◌, ℕ, suc, ◌-◌, ◌<◌, false, is_some, true≢false, ◌∷◌, Option, Some, None, refl, sym, ap, ◌∙◌, arith}
use Rattle.std.specs.Option.{option_or}
use Rattle.image_model.specs.Upwards.{upwards, first_given, nth_above}

-- a number above 0 is one more than another
below-suc : (n : ℕ) → 0 < n → suc (n - 1) ≡ n
below-suc n h = omega arith

-- one step less
pub nth_above-step : {X : Type 0} (up : X → Option X) (n : ℕ) (x : X) → 0 < n → nth_above up n (Some x) ≡ nth_above up (n - 1) (up x)
nth_above-step up n x h = ap (λ (m : ℕ). nth_above up m (Some x)) (sym (below-suc n h))

pub upwards-step : {X : Type 0} (up : X → Option X) (n : ℕ) (x : X) → 0 < n → upwards up n (Some x) ≡ x ∷ upwards up (n - 1) (up x)
upwards-step up n x h = ap (λ (m : ℕ). upwards up m (Some x)) (sym (below-suc n h))

-- a search that finds nothing at the lowest one
pub first-step : {X Y : Type 0} (f : X → Option Y) (up : X → Option X) (n : ℕ) (x : X) → 0 < n → f x ≡ None → first_given f (upwards up n (Some x)) ≡ first_given f (upwards up (n - 1) (up x))
first-step f up n x h e = ap (first_given f) (upwards-step up n x h) ∙ ap (λ o. option_or o (first_given f (upwards up (n - 1) (up x)))) e

-- where there is not something there is nothing
pub none-from_is_some : {X : Type 0} (o : Option X) → is_some o ≡ false → o ≡ None
none-from_is_some None e = refl
none-from_is_some (Some x) e = absurd (true≢false e)
