-- Words that are too few or too many for any form.
use Rattle.std.proofs.Common.{◌≡◌, ℕ, ◌<◌, ◌≤◌, List, [], ◌∷◌, length, map, refl, arith}
use Rattle.command_words.specs.Forms.{NoForm, form_of}

-- no word
pub too_few : {X : Type 0} (f : X → List ℕ) (words : List X) → length words < 1 → NoForm ≡ form_of (map f words)
too_few f [] h = refl
too_few f (a ∷ words) h = absurd (omega (arith, h))

-- five words or more
pub too_many : {X : Type 0} (f : X → List ℕ) (words : List X) → 5 ≤ length words → NoForm ≡ form_of (map f words)
too_many f [] h = absurd (omega (arith, h))
too_many f (a ∷ []) h = absurd (omega (arith, h))
too_many f (a ∷ b ∷ []) h = absurd (omega (arith, h))
too_many f (a ∷ b ∷ c ∷ []) h = absurd (omega (arith, h))
too_many f (a ∷ b ∷ c ∷ d ∷ []) h = absurd (omega (arith, h))
too_many f (a ∷ b ∷ c ∷ d ∷ e ∷ words) h = refl
