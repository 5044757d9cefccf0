-- The chunks of a text.
use Rattle.std.specs.Prelude.{◌≡◌, ℕ, ◌+◌, ◌<◌, Bool, ◌==◌, List, [], ◌∷◌, ◌++◌, length, Option, Some, None, Result, Ok, Err}
use Rattle.std.specs.List.{list_any}
use Rattle.rb_base.specs.Doubling.{IsPaired, BeginsOtherwise, doubled}
use Rattle.chunk_format.specs.Blank.{blank_len, IsBlank}
use Rattle.chunk_format.specs.Left.{Left}
use Rattle.chunk_format.specs.declared.chunk_iter.Chunk.{Chunk}
use Rattle.chunk_format.specs.declared.chunk_iter.Unended.{Unended}

-- the text holds the mark
abbrev pub holds_mark : List ℕ → Bool
holds_mark s = list_any (λ b. b == 33) s

-- the text is a body, in which each mark stands twice, then a mark, and then what does not begin with one
pub record IsCut (text body behind : List ℕ) : Type 0 where
  pub whole : text ≡ body ++ 33 ∷ behind
  pub paired : IsPaired 33 body
  pub other : BeginsOtherwise 33 behind

-- a chunk: its number, where its body begins, the body, and whether that holds a mark
pub record Piece : Type 0 where
  pub number : ℕ
  pub at : ℕ
  pub body : List ℕ
  pub doubled : Bool

-- a chunk of the program, without where it lies in memory
abbrev pub piece : Chunk → Piece
piece c = record { number = c.number; at = c.at; body = c.body.now; doubled = c.doubled }

-- each mark of the body stands twice, and `doubled` tells whether there is one
pub record IsChunk (p : Piece) : Type 0 where
  pub paired : IsPaired 33 p.body
  pub doubled : p.doubled ≡ holds_mark p.body

-- what is left behind a chunk and its mark
abbrev pub left_behind : Piece → List ℕ → Left
left_behind p behind = record { number = p.number + 1; at = p.at + (length p.body + 1); rest = behind }

-- the chunk that a source is, written behind blanks
abbrev pub written_piece : Left → List ℕ → List ℕ → Piece
written_piece left blanks source = record { number = left.number; at = left.at; body = blanks ++ doubled 33 source; doubled = holds_mark source }

-- the chunk stands first in what is left, and new is what is left behind it
pub record Takes (old : Left) (p : Piece) (new : Left) : Type 0 where
  pub number : p.number ≡ old.number
  pub at : p.at ≡ old.at
  pub cut : IsCut old.rest p.body new.rest
  pub doubled : p.doubled ≡ holds_mark p.body
  pub after : new ≡ left_behind p new.rest

-- no chunk is left, and nothing but blanks
abbrev pub IsOver : Left → Type 0
IsOver left = IsPaired 33 left.rest × IsBlank left.rest

-- no chunk is left, and the first byte that is not blank stands there
abbrev pub IsUnended : Left → Unended → Type 0
IsUnended left e =
    IsPaired 33 left.rest × (blank_len left.rest < length left.rest) × (e.number ≡ left.number) × (e.at ≡ left.at + blank_len left.rest)

-- what a call of next gives
abbrev pub IsNext : Left → Option (Result Chunk Unended) → Left → Type 0
IsNext old (Some (Ok c)) new = IsChunk (piece c) × Takes old (piece c) new
IsNext old (Some (Err e)) new = IsUnended old e × (new ≡ record old { rest = [] })
IsNext old None new = IsOver old × (new ≡ record old { rest = [] })

-- the chunks of what is left, and the fault where a byte that is not blank stands behind the last one
pub data HasChunks : Left → List Piece → Option Unended → Type 0 where
  First : {old new : Left} {p : Piece} {ps : List Piece} {end : Option Unended} → Takes old p new → HasChunks new ps end → HasChunks old (p ∷ ps) end
  Over : {left : Left} → IsOver left → HasChunks left [] None
  Refused : {left : Left} {e : Unended} → IsUnended left e → HasChunks left [] (Some e)
