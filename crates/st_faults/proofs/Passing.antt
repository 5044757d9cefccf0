-- The tokens of a clean text from a place on, and the first of them.
use Rattle.std.proofs.Common.{◌≡◌, ◌≢◌, ℕ, ◌≤◌, ◌⊎◌, inl, inr, List, [], ◌∷◌, Some, None, length, refl, sym, ◌∙◌, ap}
use Rattle.std.specs.Prelude.{Option}
use Rattle.token_model.specs.TokenLists.{Piece}
use Rattle.token_model.specs.declared.kind.Dialect.TheVariants.{Second}
use Rattle.token_model.specs.declared.fault.LexFault.{LexFault}
use Rattle.tree_model.specs.Tree.{Notes, LiteralOf}
use Rattle.grammar_model.specs.Terminal.{Text}
use Rattle.grammar_model.specs.Input as input
use Rattle.grammar_model.specs.Input.{lex}
use Rattle.grammar_model.specs.Whole.{Form}
use Rattle.grammar_model.specs.Lexemes.{lexemes_by}
use Rattle.grammar_model.specs.PatternTokens.{HasTokensOf, terminal_in}
use Rattle.st_faults.specs.declared.sort.Sort.{Sort}
use Rattle.st_faults.specs.declared.sort.Sort.TheVariants.{TextEnd}
use Rattle.st_faults.specs.declared.lexeme.Lexeme.{Lexeme}
use Rattle.st_faults.specs.Sorts.{terminal}
use Rattle.st_faults.specs.Lexing.{IsLexedFrom, IsBehind, HasLexFault, IsFirst}
use Rattle.grammar_model.proofs.FormTokens.{HasTokensOf-same, lists_of}

-- from a place on there is one list of tokens
pub IsLexedFrom-same : (form : Form) (t : Text) (at : ℕ) (held : Notes) (ts us : List input.Lexeme) → IsLexedFrom form t at held ts → IsLexedFrom form t at held us → ts ≡ us
IsLexedFrom-same form t at held ts us h g =
    h.same ∙ ap (lexemes_by (terminal_in form) t held) (HasTokensOf-same form Second t at h.pieces g.pieces None None h.read g.read).0 ∙ sym g.same

-- where there are tokens there is no fault
pub no_fault : (form : Form) (t : Text) (at : ℕ) (held : Notes) (ts : List input.Lexeme) (fault : LexFault) → IsLexedFrom form t at held ts → HasLexFault form t at fault → ⊥
no_fault form t at held ts fault h g =
    let e = (HasTokensOf-same form Second t at h.pieces g.0 None (Some fault) h.read g.1).1 in cc

-- from a place on there are tokens, or there is a fault
lexed_or_fault : (form : Form) (t : Text) (at : ℕ) (ps : List Piece) (f : Option LexFault) → HasTokensOf form Second t at ps f → ((ts : List input.Lexeme) × IsLexedFrom form t at [] ts) ⊎ ((fault : LexFault) × HasLexFault form t at fault)
lexed_or_fault form t at ps None h = inl (lexemes_by (terminal_in form) t [] ps, record { pieces = ps; read = h; same = refl })
lexed_or_fault form t at ps (Some fault) h = inr (fault, (ps, h))

-- a sort is that of the end, or not
end_or_other : (s : Sort) → (s ≡ TextEnd) ⊎ (s ≢ TextEnd)
end_or_other TextEnd = inl refl
end_or_other s = inr (λ e. cc)

-- the tokens from a place on begin with its first token
pub record Split (form : Form) (t : Text) (l : Lexeme) (ts : List input.Lexeme) : Type 0 where
  pub notes : Notes
  pub text : Text
  pub literal : LiteralOf Text
  pub rest : List input.Lexeme
  pub whole : ts ≡ lex notes l.from l.to (terminal l.sort text literal) ∷ rest
  pub behind : IsBehind form t l rest

-- the tokens from a place on, by those behind the first
splits : (form : Form) (t : Text) (at : ℕ) (l : Lexeme) (ts : List input.Lexeme) → IsFirst form t at l → IsLexedFrom form t at [] ts → (rest : List input.Lexeme) → IsBehind form t l rest → Split form t l ts
splits form t at l ts first lexed rest behind = record {
  notes = first.notes;
  text = first.text;
  literal = first.literal;
  rest = rest;
  whole = IsLexedFrom-same form t at [] ts _ lexed (first.joined rest behind);
  behind = behind;
}

-- the tokens from a place on begin with the first token that was read
pub split : (form : Form) (t : Text) (at : ℕ) (l : Lexeme) (ts : List input.Lexeme) → IsFirst form t at l → l.to ≤ length t → IsLexedFrom form t at [] ts → Split form t l ts
split form t at l ts first inside lexed = elim (end_or_other l.sort) [
  | inl end ↦ splits form t at l ts first lexed [] (inl (end, refl))
  | inr other ↦
      let all = lists_of form Second t l.to inside in
      elim (lexed_or_fault form t l.to all.0 all.1 all.2) [
        | inl more ↦ splits form t at l ts first lexed more.0 (inr (other, more.1))
        | inr wrong ↦ absurd (no_fault form t at [] ts wrong.0 lexed (first.fault wrong.0 other wrong.1))
      ]
]
