-- Texts in which a mark stands in pairs: a chunk's `!` and a string's quote are written twice.
use Rattle.std.specs.Prelude.{◌≢◌, ℕ, ◌==◌, List, [], ◌∷◌, if◌then◌else◌}

-- bytes other than the mark, and marks in pairs
pub data IsPaired (mark : ℕ) : List ℕ → Type 0 where
  Empty : IsPaired mark []
  Byte : {b : ℕ} {s : List ℕ} → b ≢ mark → IsPaired mark s → IsPaired mark (b ∷ s)
  Pair : {s : List ℕ} → IsPaired mark s → IsPaired mark (mark ∷ mark ∷ s)

-- the text with each mark written twice
abbrev pub doubled : ℕ → List ℕ → List ℕ
doubled mark [] = []
doubled mark (b ∷ s) = if b == mark then mark ∷ mark ∷ doubled mark s else b ∷ doubled mark s

-- the text does not begin with the mark
abbrev pub BeginsOtherwise : ℕ → List ℕ → Type 0
BeginsOtherwise mark [] = Unit {0}
BeginsOtherwise mark (b ∷ s) = b ≢ mark
