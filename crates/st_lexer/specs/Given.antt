-- What a reader of tokens gives, call by call.
use Rattle.std.specs.Prelude.{◌≡◌, ℕ, ◌+◌, ◌-◌, Bool, true, false, List, [], ◌∷◌, length, Option, Some, None, Result, Ok, Err, if◌then◌else◌}
use Rattle.token_model.specs.TokenLists.{Piece, IsNext, IsNextFault}
use Rattle.token_model.specs.declared.kind.Dialect.TheVariants.{Second}
use Rattle.token_model.specs.declared.kind.TokenKind.{TokenKind}
use Rattle.token_model.specs.declared.kind.TokenKind.TheVariants.{End}
use Rattle.token_model.specs.declared.fault.LexFault.{LexFault}
use Rattle.st_lexer.specs.declared.token.Token.{Token}
use Rattle.st_lexer.specs.Pieces.{piece, IsSliceOf}
use Rattle.st_lexer.specs.Unread.{Unread}

-- the kind is that of the text's end
abbrev pub is_end : TokenKind → Bool
is_end End = true
is_end kind = false

-- where the reader stands at first
abbrev pub start : List ℕ → Unread
start text = record { text = text; at = 0; over = false }

-- a call gives the next token, then the fault or the end, and nothing after that
abbrev pub Gives : Unread → Option (Result Token LexFault) → Unread → Type 0
Gives old (Some (Ok token)) new =
    (old.over ≡ false) × IsNext Second old.text old.at (piece token) × IsSliceOf old.text token × (new ≡ record { text = old.text; at = token.to; over = is_end token.kind })
Gives old (Some (Err fault)) new =
    (old.over ≡ false) × IsNextFault Second old.text old.at fault × (new ≡ record { text = old.text; at = old.at; over = true })
Gives old None new = (old.over ≡ true) × (new ≡ old)

-- how many items may still come
abbrev pub left : Unread → ℕ
left unread = if unread.over then 0 else length unread.text - unread.at + 1

-- the tokens among the items
abbrev pub pieces : List (Result Token LexFault) → List Piece
pieces [] = []
pieces (Ok token ∷ items) = piece token ∷ pieces items
pieces (Err fault ∷ items) = pieces items

-- the first fault among the items
abbrev pub first_fault : List (Result Token LexFault) → Option LexFault
first_fault [] = None
first_fault (Ok token ∷ items) = first_fault items
first_fault (Err fault ∷ items) = Some fault
