-- The tokens from a place on begin with the one that was read there.
use Rattle.std.proofs.Common.{◌≡◌, ◌≢◌, ℕ, ◌⊎◌, inl, inr, Bool, List, [], ◌∷◌, ◌++◌, Some, None, refl, sym, ◌∙◌, ap, subst}
use Rattle.std.specs.Prelude.{Option, slice_range, slice_index}
use Rattle.std.specs.Option.{option_map_or}
use Rattle.token_model.specs.Bytes.{is_digit}
use Rattle.token_model.specs.TokenLists.{Piece}
use Rattle.token_model.specs.declared.kind.Dialect.TheVariants.{Second}
use Rattle.token_model.specs.declared.kind.TokenKind.TheVariants.{Comment, End}
use Rattle.token_model.specs.declared.fault.LexFault.{LexFault}
use Rattle.tree_model.specs.Tree.{Notes}
use Rattle.grammar_model.specs.Terminal.{Text}
use Rattle.grammar_model.specs.Input.{Lexeme, lex}
use Rattle.grammar_model.specs.Whole.{Form}
use Rattle.grammar_model.specs.Lexemes.{begins_numeral, lexemes_by}
use Rattle.grammar_model.specs.PatternTokens.{IsNextOf, HasTokensOf, terminal_in}
use Rattle.grammar_model.proofs.FormTokens.{TokensOf, EndsHere, StopsHere, GoesOn, tokens_of}
use Rattle.st_faults.specs.declared.sort.Sort.TheVariants.{TextEnd}
use Rattle.st_faults.specs.Lexing.{IsLexedFrom}
use Rattle.st_faults.proofs.Listed.{next_same}
use Rattle.st_faults.proofs.Signs.{begins_numeral-digit}
use Rattle.st_faults.proofs.Skipping.{comment_kind, lexemes_comment, sees_end, end_has_sort}
use Rattle.st_events.specs.declared.token.Token.{Token}
use Rattle.st_events.specs.Tokens.{seen, Begins}

-- the pieces from a place on begin with the one that stands there
record FirstPiece (form : Form) (t : Text) (p : Piece) (ps : List Piece) : Type 0 where
  rest : List Piece
  whole : ps ≡ p ∷ rest
  behind : (p.kind ≡ End) ⊎ HasTokensOf form Second t p.to rest None

-- the first piece
first_listed : (form : Form) (t : Text) (at : ℕ) (p : Piece) (ps : List Piece) (fault : Option LexFault) → fault ≡ None → IsNextOf form Second t at p → TokensOf form Second t at ps fault → FirstPiece form t p ps
first_listed form t at p ps fault none next (EndsHere q other end) =
    let same = next_same form t at q p other next in
    record { rest = []; whole = ap (λ x. x ∷ []) same; behind = inl (sym (ap (λ x. x.kind) same) ∙ end) }
first_listed form t at p ps fault none next (StopsHere f other) = cc
first_listed form t at p ps fault none next (GoesOn q rest _ other n more) =
    let same = next_same form t at q p other next in
    let tokens = subst (λ f. HasTokensOf form Second t q.to rest f) none more in
    record { rest = rest; whole = ap (λ x. x ∷ rest) same; behind = inr (subst (λ x. HasTokensOf form Second t x rest None) (ap (λ x. x.to) same) tokens) }

-- the first piece
first_piece : (form : Form) (t : Text) (at : ℕ) (p : Piece) (ps : List Piece) → IsNextOf form Second t at p → HasTokensOf form Second t at ps None → FirstPiece form t p ps
first_piece form t at p ps next h = first_listed form t at p ps None refl next (tokens_of form Second t at ps None h)

-- behind a comment
pub behind_comment : (form : Form) (t : Text) (at : ℕ) (held : Notes) (ts : List Lexeme) (p : Piece) (s : Text) (b : Bool) →
    IsNextOf form Second t at p → s ≡ slice_range t p.from p.to → terminal_in form p.kind s b ≡ None → IsLexedFrom form t at held ts → IsLexedFrom form t p.to (held ++ s ∷ []) ts
behind_comment form t at held ts p s b next slice none lexed =
    let kind = comment_kind form p.kind s b none in
    let f = first_piece form t at p lexed.pieces next lexed.read in
    elim f.behind [
      | inl end ↦ absurd (let e : Comment ≡ End = sym kind ∙ end in cc)
      | inr more ↦ record {
        pieces = f.rest;
        read = more;
        same = lexed.same ∙ ap (lexemes_by (terminal_in form) t held) f.whole ∙ lexemes_comment form t held p f.rest kind ∙ ap (λ x. lexemes_by (terminal_in form) t (held ++ x ∷ []) f.rest) (sym slice);
      }
    ]

-- a numeral begins behind a token if a digit stands there, but for the end
same_flag : (form : Form) (t : Text) (p : Piece) (rest : List Piece) (s : Text) (b : Bool) → b ≡ is_digit (slice_index t p.to) → (p.kind ≡ End) ⊎ HasTokensOf form Second t p.to rest None → terminal_in form p.kind s (begins_numeral p.to rest) ≡ terminal_in form p.kind s b
same_flag form t p rest s b digit (inl end) =
    ap (λ k. terminal_in form k s (begins_numeral p.to rest)) end ∙ sees_end form s (begins_numeral p.to rest) ∙ sym (ap (λ k. terminal_in form k s b) end ∙ sees_end form s b)
same_flag form t p rest s b digit (inr more) = ap (terminal_in form p.kind s) (begins_numeral-digit form t p.to rest more ∙ sym digit)

-- the tokens behind one
behind_token : (form : Form) (t : Text) (p : Piece) (rest : List Piece) (k : Token) (b : Bool) → k.to ≡ p.to → terminal_in form p.kind k.text.now b ≡ Some (seen k) → (p.kind ≡ End) ⊎ HasTokensOf form Second t p.to rest None → k.sort ≢ TextEnd → IsLexedFrom form t k.to [] (lexemes_by (terminal_in form) t [] rest)
behind_token form t p rest k b to is (inl end) other = absurd (other (end_has_sort form p.kind k.text.now k.text.now b k.sort _ is end))
behind_token form t p rest k b to is (inr more) other = record { pieces = rest; read = subst (λ n. HasTokensOf form Second t n rest None) (sym to) more; same = refl }

-- a token that is no comment
pub begins_token : (form : Form) (t : Text) (at : ℕ) (held : Notes) (ts : List Lexeme) (p : Piece) (k : Token) (b : Bool) →
    IsNextOf form Second t at p → k.from ≡ p.from → k.to ≡ p.to → k.text.now ≡ slice_range t p.from p.to → b ≡ is_digit (slice_index t p.to) → terminal_in form p.kind k.text.now b ≡ Some (seen k) → IsLexedFrom form t at held ts → Begins form t k held ts
begins_token form t at held ts p k b next from to slice digit is lexed =
    let f = first_piece form t at p lexed.pieces next lexed.read in
    let s = slice_range t p.from p.to in
    let seen_there : terminal_in form p.kind s (begins_numeral p.to f.rest) ≡ Some (seen k) = same_flag form t p f.rest s b digit f.behind ∙ ap (λ x. terminal_in form p.kind x b) (sym slice) ∙ is in
    record {
      rest = lexemes_by (terminal_in form) t [] f.rest;
      whole = lexed.same ∙ ap (lexemes_by (terminal_in form) t held) f.whole ∙
          ap (λ o. option_map_or (λ x. lex held p.from p.to x ∷ lexemes_by (terminal_in form) t [] f.rest) o (lexemes_by (terminal_in form) t (held ++ s ∷ []) f.rest)) seen_there ∙
          (λ i. lex held (sym from i) (sym to i) (seen k) ∷ lexemes_by (terminal_in form) t [] f.rest);
      behind = behind_token form t p f.rest k b to is f.behind;
    }
