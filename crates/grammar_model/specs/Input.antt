-- What is left to read.
use Rattle.std.specs.Prelude.{◌≡◌, ℕ, List, [], ◌∷◌, ◌++◌}
use Rattle.tree_model.specs.Tree.{Notes}
use Rattle.grammar_model.specs.Terminal.{Terminal, Closes, TextEnd}

-- a token that is no comment: the comments before it, its first byte, the place behind its last one, and what it is
pub data Lexeme : Type 0 where
  lex : Notes → ℕ → ℕ → Terminal → Lexeme

-- the comments that were passed and belong to nothing yet, the place behind the last token, and the tokens that are left
pub record Input : Type 0 where
  pub held : Notes
  pub last : ℕ
  pub rest : List Lexeme

-- nothing was read yet
abbrev pub beginning : List Lexeme → Input
beginning ts = record { held = []; last = 0; rest = ts }

-- what the first token is; behind the last one stands the end
abbrev pub first_kind : List Lexeme → Terminal
first_kind [] = Closes TextEnd
first_kind (lex c f e k ∷ ts) = k

-- where the first token begins
abbrev pub first_from : List Lexeme → ℕ
first_from [] = 0
first_from (lex c f e k ∷ ts) = f

-- the place behind the first token
abbrev pub first_end : List Lexeme → ℕ
first_end [] = 0
first_end (lex c f e k ∷ ts) = e

-- the comments before the first token
abbrev pub first_notes : List Lexeme → Notes
first_notes [] = []
first_notes (lex c f e k ∷ ts) = c

-- the tokens behind the first one
abbrev pub others : List Lexeme → List Lexeme
others [] = []
others (t ∷ ts) = ts

-- what the next token is
abbrev pub kind_of : Input → Terminal
kind_of i = first_kind i.rest

-- where the next token begins
abbrev pub from_of : Input → ℕ
from_of i = first_from i.rest

-- behind the next token; the comments before it are held
abbrev pub next : Input → Input
next i = record { held = i.held ++ first_notes i.rest; last = first_end i.rest; rest = others i.rest }

-- the same place, with no comments held
abbrev pub clear : Input → Input
clear i = record { held = []; last = i.last; rest = i.rest }

-- behind a block: held are the comments that were held before it
abbrev pub back : Input → Input → Input
back outer i = record { held = outer.held; last = i.last; rest = i.rest }

-- what the tokens are, without comments and places
abbrev pub kinds : List Lexeme → List Terminal
kinds [] = []
kinds (lex c f e k ∷ ts) = k ∷ kinds ts

-- the last token is the end of the text
abbrev pub IsEnded : List Lexeme → Type 0
IsEnded [] = ⊥
IsEnded (lex c f e k ∷ []) = k ≡ Closes TextEnd
IsEnded (t ∷ ts) = IsEnded ts
