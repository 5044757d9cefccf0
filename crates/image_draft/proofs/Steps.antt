-- One step of a walk along classes.
use Rattle.std.proofs.Common.{◌≡◌, ℕ, ◌-◌, ◌<◌, Bool, true, false, cond, ◌&&◌, ◌||◌, List, ◌∷◌, ◌++◌, filter, Option, Some, refl, sym, ap, ◌∙◌, append_assoc}
use Rattle.std.specs.List.{list_any, flat_map}
use Rattle.image_model.specs.Upwards.{upwards}
use Rattle.class_table.proofs.Walks.{upwards-step}

-- what one thing gives, and then what those above it give
pub flat-step : {X A : Type 0} (k : X → List A) (up : X → Option X) (n : ℕ) (x : X) (before : List A) → 0 < n → (before ++ k x) ++ flat_map k (upwards up (n - 1) (up x)) ≡ before ++ flat_map k (upwards up n (Some x))
flat-step {X} k up n x before h = append_assoc before (k x) (flat_map k (upwards up (n - 1) (up x))) ∙ ap (λ (ys : List X). before ++ flat_map k ys) (sym (upwards-step up n x h))

-- whether one of the items that pass one test passes another
pub any-passing : {X : Type 0} (p q : X → Bool) (x : X) (xs : List X) → list_any p (filter q (x ∷ xs)) ≡ (q x && p x || list_any p (filter q xs))
any-passing p q x xs = by (q x)
  where
    by : (b : Bool) → list_any p (cond b (x ∷ filter q xs) (filter q xs)) ≡ (b && p x || list_any p (filter q xs))
    by true = refl
    by false = refl
