-- The pieces of bytes, and the puts of an output.
use Rattle.std.specs.Prelude.{◌≡◌, ℕ, ◌<◌, ◌≤◌, List, [], ◌∷◌, ◌++◌, map, length, Option, option_map}

-- No bytes have no piece. Up to 1,024 bytes are one piece. 1,024 bytes with more after them are a piece and the pieces of the rest.
pub data ArePieces : List ℕ → List (List ℕ) → Type 0 where
  NoPiece : ArePieces [] []
  LastPiece : (piece : List ℕ) → 0 < length piece → length piece ≤ 1024 → ArePieces piece (piece ∷ [])
  NextPiece : (piece rest : List ℕ) (pieces : List (List ℕ)) → length piece ≡ 1024 → ArePieces rest pieces → ArePieces (piece ++ rest) (piece ∷ pieces)

-- a put of a piece: taken whole, or failed
pub data Put : Type 0 where
  Taken : List ℕ → Put
  Failed : List ℕ → Put

-- puts that are told grow by these
abbrev pub Adds : List Put → Option (List Put) → Option (List Put) → Type 0
Adds puts old new = new ≡ option_map (λ all. all ++ puts) old

-- all pieces of the bytes were put and taken
abbrev pub PutsAll : List ℕ → Option (List Put) → Option (List Put) → Type 0
PutsAll bytes old new = (pieces : List (List ℕ)) × ArePieces bytes pieces × Adds (map Taken pieces) old new

-- the first pieces of the bytes were taken, the next put failed, and no put came after it
abbrev pub PutsUntilFailed : List ℕ → Option (List Put) → Option (List Put) → Type 0
PutsUntilFailed bytes old new = (before : List (List ℕ)) × (piece : List ℕ) × (after : List (List ℕ)) × ArePieces bytes (before ++ piece ∷ after) × Adds (map Taken before ++ Failed piece ∷ []) old new

-- the first pieces of the bytes were taken, the next put wanted memory, and no put came after it
abbrev pub PutsUntilWanted : List ℕ → Option (List Put) → Option (List Put) → Type 0
PutsUntilWanted bytes old new = (before : List (List ℕ)) × (piece : List ℕ) × (after : List (List ℕ)) × ArePieces bytes (before ++ piece ∷ after) × Adds (map Taken before) old new
