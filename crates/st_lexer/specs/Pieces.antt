-- A token without where it lies in memory.
use Rattle.std.specs.Prelude.{◌≡◌, List, ℕ, slice_range}
use Rattle.token_model.specs.TokenLists.{Piece}
use Rattle.st_lexer.specs.declared.token.Token.{Token}

-- its kind and its span
abbrev pub piece : Token → Piece
piece token = record { kind = token.kind; from = token.from; to = token.to }

-- its text is the slice of its span
abbrev pub IsSliceOf : List ℕ → Token → Type 0
IsSliceOf text token = token.text.now ≡ slice_range text token.from token.to
