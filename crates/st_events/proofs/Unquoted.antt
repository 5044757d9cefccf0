-- Texts without a mark.
use Rattle.std.proofs.Common.{◌≡◌, ℕ, ◌==◌, ◌||◌, Bool, true, false, if◌then◌else◌, List, [], ◌∷◌, refl, ap, true≢false}
use Rattle.std.specs.List.{list_any}
use Rattle.grammar_model.specs.Lexemes.{singled}

-- one byte that is no mark, before bytes of which none is
kept_one : (t u : Bool) (b : ℕ) (others kept s : List ℕ) → t || u ≡ false → (u ≡ false → kept ≡ s) → (if t then others else b ∷ kept) ≡ b ∷ s
kept_one true u b others kept s h k = absurd (true≢false h)
kept_one false u b others kept s h k = ap (λ xs. b ∷ xs) (k h)

-- where no byte is the mark, no pair is made one
pub singled-none : (mark : ℕ) (s : List ℕ) → list_any (λ b. b == mark) s ≡ false → singled mark false s ≡ s
singled-none mark [] h = refl
singled-none mark (b ∷ s) h = kept_one (b == mark) (list_any (λ c. c == mark) s) b (b ∷ singled mark true s) (singled mark false s) s h (singled-none mark s)
