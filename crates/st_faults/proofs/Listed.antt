-- The tokens of a text of any form from a place on.
use Rattle.std.proofs.Common.{◌≡◌, ◌≢◌, ℕ, ◌<◌, ◌≤◌, inl, inr, List, [], length, sym, subst, arith}
use Rattle.token_model.specs.TokenLists.{Piece}
use Rattle.token_model.specs.declared.kind.Dialect.TheVariants.{Second}
use Rattle.token_model.specs.declared.kind.TokenKind.TheVariants.{End}
use Rattle.token_model.proofs.Lists.{IsNext-same}
use Rattle.grammar_model.specs.Terminal.{Text}
use Rattle.grammar_model.specs.Input.{Lexeme}
use Rattle.grammar_model.specs.Whole.{Form, DoIt, Method, PatternText}
use Rattle.grammar_model.specs.PatternTokens.{IsNextOf, IsLexedAs}
use Rattle.grammar_model.proofs.MetaTokens.{IsPatternToken-cases, IsPatternNext-same}
use Rattle.grammar_model.proofs.FormTokens.{lexed_as, pieces_as, blanks_of, token_of, some_of}
use Rattle.st_faults.specs.Lexing.{IsLexedFrom}

-- the token behind the blanks is one
pub next_same : (form : Form) (t : Text) (at : ℕ) (p q : Piece) → IsNextOf form Second t at p → IsNextOf form Second t at q → p ≡ q
next_same DoIt t at p q h g = IsNext-same Second t at p q h g
next_same (Method kernel) t at p q h g = IsNext-same Second t at p q h g
next_same PatternText t at p q h g = IsPatternNext-same Second t at p q h g

-- a token lies inside the text
pub next_inside : (form : Form) (t : Text) (at : ℕ) (p : Piece) → IsNextOf form Second t at p → p.to ≤ length t
next_inside form t at p next = elim (IsPatternToken-cases Second p.kind t p.from p.to (token_of form Second t at p next)) [
  | inl (end, from, to) ↦ omega (arith, from, to)
  | inr s ↦ s.inside
]

-- a token that is not the end goes further
pub next_further : (form : Form) (t : Text) (at : ℕ) (p : Piece) → IsNextOf form Second t at p → p.kind ≢ End → at < p.to
next_further form t at p next other = omega (arith, (blanks_of form Second t at p next).order, some_of form Second t at p next other)

-- tokens from the start of a text on are those of the text
pub lexed_whole : (form : Form) (t : Text) (ts : List Lexeme) → IsLexedFrom form t 0 [] ts → IsLexedAs form Second t ts
lexed_whole form t ts h = subst (IsLexedAs form Second t) (sym h.same) (lexed_as form Second t h.pieces h.read)

-- the tokens of a text are those from its start on
pub lexed_from : (form : Form) (t : Text) (ts : List Lexeme) → IsLexedAs form Second t ts → IsLexedFrom form t 0 [] ts
lexed_from form t ts lexed =
    let all = pieces_as form Second t ts lexed in
    record { pieces = all.0; read = all.1; same = all.2 }
