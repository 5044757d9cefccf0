-- What is read of a text that stands behind another.
use Rattle.std.specs.Prelude.{◌≡◌, List, ◌∷◌, ◌++◌, flat_map, false, Option, None, Ok}
use Rattle.token_model.specs.declared.kind.Dialect.{Dialect}
use Rattle.chunk_format.specs.Blank.{IsBlank}
use Rattle.chunk_format.specs.Left.{Left, start_of}
use Rattle.chunk_format.specs.Chunks.{Piece, HasChunks}
use Rattle.chunk_format.specs.declared.chunk_iter.Unended.{Unended}
use Rattle.file_model.specs.Filing.{Text, Filing}
use Rattle.file_model.specs.Reading.{TakesAll}
use Rattle.change_model.specs.Edits.{Edit, Settle}
use Rattle.change_model.specs.Text.{edit_text}

-- the end of an open run, the settling of places, and edits
abbrev pub with_edits : List Edit → Text
with_edits es = 10 ∷ 33 ∷ 10 ∷ 10 ∷ flat_map edit_text (Settle ∷ es)

-- Behind the chunks of a text blanks are left, and where more text stands behind it, its chunks begin there: those of both are the first ones and then these.
pub record GoesOn (text more : Text) (pieces : List Piece) : Type 0 where
  pub last : Left
  pub blanks : Text
  pub blank : IsBlank blanks
  pub rest : last.rest ≡ blanks ++ more
  pub chunks : (further : List Piece) (end : Option Unended) → HasChunks last further end → HasChunks (start_of (text ++ more)) (pieces ++ further) end

-- What is left is read to its end, from one filing to another.
pub record IsRead (d : Dialect) (left : Left) (f g : Filing) : Type 0 where
  pub pieces : List Piece
  pub chunks : HasChunks left pieces None
  pub takes : TakesAll d false f pieces None (Ok g)
