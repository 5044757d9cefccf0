-- The tokens of the two dialects are the same but for the braces.
use Rattle.std.proofs.Common.{◌≢◌, ℕ, List, refl}
use Rattle.token_model.specs.Tokens.{IsToken}
use Rattle.token_model.specs.declared.kind.Dialect.{Dialect}
use Rattle.token_model.specs.declared.kind.Dialect.TheVariants.{First, Second}
use Rattle.token_model.specs.declared.kind.TokenKind.{TokenKind}
use Rattle.token_model.specs.declared.kind.TokenKind.TheVariants.{BraceOpen, BraceClose}

-- a token of any dialect is one of every other, unless it is a brace
pub IsToken-dialect : (d e : Dialect) (kind : TokenKind) (t : List ℕ) (i j : ℕ) → kind ≢ BraceOpen → kind ≢ BraceClose → IsToken d kind t i j → IsToken e kind t i j
IsToken-dialect d e BraceOpen t i j no_open no_close h = absurd (no_open refl)
IsToken-dialect d e BraceClose t i j no_open no_close h = absurd (no_close refl)
IsToken-dialect d e kind t i j no_open no_close h = h

-- a token of the first dialect is one of the second
pub IsToken-second : (kind : TokenKind) (t : List ℕ) (i j : ℕ) → IsToken First kind t i j → IsToken Second kind t i j
IsToken-second BraceOpen t i j h = (refl, h.1)
IsToken-second BraceClose t i j h = (refl, h.1)
IsToken-second kind t i j h = h
