-- Walks upwards, one step at a time.
use Rattle.std.proofs.Common.{◌≡◌, ℕ, zero, suc, Bool, true, false, ◌||◌, Option, Some, None, refl, sym, ap, ◌∙◌}
use Rattle.std.specs.List.{list_any}
use Rattle.image_model.specs.Upwards.{upwards}

module _ (up : ℕ → Option ℕ) (p : ℕ → Bool) where
  -- nothing is above nothing
  pub ended : (k : ℕ) → false ≡ list_any p (upwards up k None)
  ended zero = refl
  ended (suc k) = refl

  pub found : (k j x : ℕ) → k ≡ suc j → true ≡ p x → true ≡ list_any p (upwards up k (Some x))
  found k j x e h = ap (λ b. b || list_any p (upwards up j (up x))) h ∙ ap (λ n. list_any p (upwards up n (Some x))) (sym e)

  pub next : (k j x : ℕ) → k ≡ suc j → false ≡ p x → list_any p (upwards up j (up x)) ≡ list_any p (upwards up k (Some x))
  next k j x e h = ap (λ b. b || list_any p (upwards up j (up x))) h ∙ ap (λ n. list_any p (upwards up n (Some x))) (sym e)
