-- Comments that are passed before a token, and the token behind them.
use Rattle.std.proofs.Common.{◌≡◌, ◌≢◌, ℕ, ◌<◌, inl, inr, Bool, true, false, List, [], ◌∷◌, ◌++◌, Some, None, refl, sym, ◌∙◌, ap}
use Rattle.std.specs.Prelude.{Option, if◌then◌else◌, slice_range, slice_index}
use Rattle.std.specs.Option.{option_map_or}
use Rattle.token_model.specs.Bytes.{is_digit}
use Rattle.token_model.specs.TokenLists.{Piece}
use Rattle.token_model.specs.declared.kind.Dialect.TheVariants.{Second}
use Rattle.token_model.specs.declared.kind.TokenKind.{TokenKind}
use Rattle.token_model.specs.declared.kind.TokenKind.TheVariants.{Identifier, Keyword, Binary, Comment, End}
use Rattle.token_model.specs.declared.fault.LexFault.{LexFault}
use Rattle.tree_model.specs.Tree.{Notes, LiteralOf}
use Rattle.grammar_model.specs.Terminal.{Text, Terminal, Closes}
use Rattle.grammar_model.specs.Terminal as grammar
use Rattle.grammar_model.specs.Input as input
use Rattle.grammar_model.specs.Input.{lex}
use Rattle.grammar_model.specs.Whole.{Form, DoIt, Method, PatternText}
use Rattle.grammar_model.specs.Lexemes.{name_of, keyword_of, terminal_of, begins_numeral, lexemes_by}
use Rattle.grammar_model.specs.PatternTokens.{IsNextOf, IsNextFaultOf, terminal_in, pattern_terminal_of}
use Rattle.st_faults.specs.declared.sort.Sort.{Sort}
use Rattle.st_faults.specs.declared.sort.Sort.TheVariants.{TextEnd}
use Rattle.st_faults.specs.Sorts.{terminal}
use Rattle.st_faults.specs.Lexing.{IsLexedFrom, HasLexFault, HasComments, NoComment, OneComment, IsFirst}
use Rattle.grammar_model.proofs.FormTokens.{ended_of, stopped_of, further_of}
use Rattle.st_faults.proofs.Listed.{next_further}
use Rattle.st_faults.proofs.Signs.{begins_numeral-digit}

-- from one place up to another stand comments alone
pub record Skipped (form : Form) (t : Text) (start at : ℕ) : Type 0 where
  pub notes : Notes
  pub comments : HasComments form t start at
  pub clean : (ts : List input.Lexeme) → IsLexedFrom form t at notes ts → IsLexedFrom form t start [] ts
  pub fault : (fault : LexFault) → HasLexFault form t at fault → HasLexFault form t start fault

-- nothing was passed
pub skipped_none : (form : Form) (t : Text) (at : ℕ) → Skipped form t at at
skipped_none form t at = record { notes = []; comments = NoComment; clean = λ ts h. h; fault = λ f h. h }

-- what the grammar does not see is a comment
plain_comment : (k : TokenKind) (s : Text) (b : Bool) → terminal_of k s b ≡ None → k ≡ Comment
plain_comment Comment s b e = refl
plain_comment k s b e = cc

-- in a pattern too
pattern_comment : (k : TokenKind) (s : Text) (b : Bool) → pattern_terminal_of k s b ≡ None → k ≡ Comment
pattern_comment Identifier s b e = cc
pattern_comment Keyword s b e = cc
pattern_comment Comment s b e = refl
pattern_comment k s b e = cc

-- in a text of any form
pub comment_kind : (form : Form) (k : TokenKind) (s : Text) (b : Bool) → terminal_in form k s b ≡ None → k ≡ Comment
comment_kind DoIt k s b e = plain_comment k s b e
comment_kind (Method kernel) k s b e = plain_comment k s b e
comment_kind PatternText k s b e = pattern_comment k s b e

-- the grammar sees no comment
sees_no_comment : (form : Form) (s : Text) (b : Bool) → terminal_in form Comment s b ≡ None
sees_no_comment DoIt s b = refl
sees_no_comment (Method kernel) s b = refl
sees_no_comment PatternText s b = refl

-- the grammar sees the tokens behind a comment
pub lexemes_comment : (form : Form) (t : Text) (held : Notes) (p : Piece) (rest : List Piece) → p.kind ≡ Comment →
    lexemes_by (terminal_in form) t held (p ∷ rest) ≡ lexemes_by (terminal_in form) t (held ++ slice_range t p.from p.to ∷ []) rest
lexemes_comment form t held p rest kind =
    let s = slice_range t p.from p.to in
    ap (λ o. option_map_or (λ x. lex held p.from p.to x ∷ lexemes_by (terminal_in form) t [] rest) o (lexemes_by (terminal_in form) t (held ++ s ∷ []) rest))
    (ap (λ k. terminal_in form k s (begins_numeral p.to rest)) kind ∙ sees_no_comment form s (begins_numeral p.to rest))

-- one more comment
pub skipped_one : (form : Form) (t : Text) (start at : ℕ) (p : Piece) (s : Text) (b : Bool) → Skipped form t start at → IsNextOf form Second t at p → terminal_in form p.kind s b ≡ None → Skipped form t start p.to
skipped_one form t start at p s b before next none =
    let kind = comment_kind form p.kind s b none in
    let other : p.kind ≢ End = λ e. let f : Comment ≡ End = sym kind ∙ e in cc in
    record {
      notes = before.notes ++ slice_range t p.from p.to ∷ [];
      comments = OneComment at p before.comments next kind;
      clean = λ ts h. before.clean ts (record {
        pieces = p ∷ h.pieces;
        read = further_of form Second t at p h.pieces None next other h.read;
        same = h.same ∙ sym (lexemes_comment form t before.notes p h.pieces kind);
      });
      fault = λ f h. before.fault f (p ∷ h.0, further_of form Second t at p h.0 (Some f) next other h.1);
    }

-- a fault behind comments
pub skipped_fault : (form : Form) (t : Text) (start at : ℕ) (fault : LexFault) → Skipped form t start at → IsNextFaultOf form Second t at fault → HasLexFault form t start fault
skipped_fault form t start at fault before h = before.fault fault ([], stopped_of form Second t at fault h)

-- a token that is not the end
abbrev NoEnd : Terminal → Type 0
NoEnd k = k ≡ Closes grammar.TextEnd → ⊥

-- a choice of two tokens that are not the end is not the end
either_not_end : (c : Bool) (k l : Terminal) → NoEnd k → NoEnd l → NoEnd (if c then k else l)
either_not_end true k l f g e = f e
either_not_end false k l f g e = g e

-- what is there is the same
some_same : (k l : Terminal) → let o : Option Terminal = Some k in o ≡ Some l → k ≡ l
some_same k l e = cc

-- an identifier is not the end
name_not_end : (c : grammar.NameKind) (s : Text) → NoEnd (grammar.Name c s)
name_not_end c s e = cc

-- a keyword is not the end
keyword_not_end : (c : grammar.KeywordKind) (s : Text) → NoEnd (grammar.Keyword c s)
keyword_not_end c s e = cc

-- a binary selector is not the end
binary_not_end : (c : grammar.BinaryKind) (s : Text) → NoEnd (grammar.Binary c s)
binary_not_end c s e = cc

-- a metavariable that is an operand is not the end
operand_not_end : (m : grammar.OperandMark) (s : Text) → NoEnd (grammar.OperandMeta m s)
operand_not_end m s e = cc

-- a metavariable of statements is not the end
statement_not_end : (s : Text) → NoEnd (grammar.StatementMeta s)
statement_not_end s e = cc

-- a metavariable of messages is not the end
message_not_end : (s : Text) → NoEnd (grammar.MessageMeta s)
message_not_end s e = cc

-- an identifier
plain_name : (s : Text) → NoEnd (name_of s)
plain_name s = either_not_end _ _ _ (name_not_end grammar.Super s) (name_not_end grammar.Ordinary s)

-- a keyword
plain_keyword : (s : Text) → NoEnd (keyword_of s)
plain_keyword s = either_not_end _ _ _ (keyword_not_end grammar.PrimitiveKeyword s) (keyword_not_end grammar.AnyKeyword s)

-- what the grammar sees as the end is the end
plain_end : (k : TokenKind) (s : Text) (b : Bool) → terminal_of k s b ≡ Some (Closes grammar.TextEnd) → k ≡ End
plain_end End s b e = refl
plain_end Identifier s b e = absurd (plain_name s (some_same _ _ e))
plain_end Keyword s b e = absurd (plain_keyword s (some_same _ _ e))
plain_end Binary s b e =
    let other = either_not_end _ _ _ (binary_not_end grammar.Greater s) (binary_not_end grammar.Common s) in
    let less = either_not_end _ _ _ (binary_not_end grammar.Less s) other in
    absurd (either_not_end _ _ _ (binary_not_end grammar.Sign s) less (some_same _ _ e))
plain_end k s b e = cc

-- in a pattern too
pattern_end : (k : TokenKind) (s : Text) (b : Bool) → pattern_terminal_of k s b ≡ Some (Closes grammar.TextEnd) → k ≡ End
pattern_end Identifier s b e =
    let expression = either_not_end _ _ _ (operand_not_end grammar.AnyExpression s) (operand_not_end grammar.AnyName s) in
    let literal = either_not_end _ _ _ (operand_not_end grammar.AnyLiteral s) expression in
    let meta = either_not_end _ _ _ (statement_not_end s) literal in
    absurd (either_not_end _ _ _ meta (plain_name s) (some_same _ _ e))
pattern_end Keyword s b e =
    let meta = either_not_end _ _ _ (message_not_end s) (keyword_not_end grammar.AnyKey s) in
    absurd (either_not_end _ _ _ meta (plain_keyword s) (some_same _ _ e))
pattern_end Binary s b e = plain_end Binary s b e
pattern_end End s b e = refl
pattern_end k s b e = cc

-- in a text of any form
end_kind : (form : Form) (k : TokenKind) (s : Text) (b : Bool) → terminal_in form k s b ≡ Some (Closes grammar.TextEnd) → k ≡ End
end_kind DoIt k s b e = plain_end k s b e
end_kind (Method kernel) k s b e = plain_end k s b e
end_kind PatternText k s b e = pattern_end k s b e

-- the grammar sees the end as the end
pub sees_end : (form : Form) (s : Text) (b : Bool) → terminal_in form End s b ≡ Some (Closes grammar.TextEnd)
sees_end DoIt s b = refl
sees_end (Method kernel) s b = refl
sees_end PatternText s b = refl

-- the end has the sort of the end
end_sort : (sort : Sort) (s : Text) (l : LiteralOf Text) → Closes grammar.TextEnd ≡ terminal sort s l → sort ≡ TextEnd
end_sort TextEnd s l e = refl
end_sort sort s l e = cc

-- the end of the text has the sort of the end
pub end_has_sort : (form : Form) (k : TokenKind) (s u : Text) (b : Bool) (sort : Sort) (l : LiteralOf Text) → terminal_in form k s b ≡ Some (terminal sort u l) → k ≡ End → sort ≡ TextEnd
end_has_sort form k s u b sort l e end = end_sort sort u l (some_same _ _ (sym (ap (λ k. terminal_in form k s b) end ∙ sees_end form s b) ∙ e))

-- the first token behind comments
pub first_is : (form : Form) (t : Text) (start at : ℕ) (p : Piece) (sort : Sort) (s u : Text) (l : LiteralOf Text) (b : Bool) →
    Skipped form t start at → IsNextOf form Second t at p → s ≡ slice_range t p.from p.to → b ≡ is_digit (slice_index t p.to) → terminal_in form p.kind s b ≡ Some (terminal sort u l) →
    IsFirst form t start (record { sort = sort; from = p.from; to = p.to })
first_is form t start at p sort s u l b before next slice flag seen =
    let k = terminal sort u l in
    let other : sort ≢ TextEnd → p.kind ≢ End = λ n e. n (end_has_sort form p.kind s u b sort l seen e) in
    record {
      notes = before.notes;
      kind = p.kind;
      place = at;
      comments = before.comments;
      token = next;
      seen = (λ i. terminal_in form p.kind (sym slice i) (sym flag i)) ∙ seen;
      text = u;
      literal = l;
      joined = λ ts behind. elim behind [
        | inl end ↦
            let kind : p.kind ≡ End = end_kind form p.kind s b (seen ∙ ap (λ x. Some (terminal x u l)) end.0) in
            let same : Closes grammar.TextEnd ≡ k = ap (λ x. terminal x u l) (sym end.0) in
            let last : terminal_in form p.kind (slice_range t p.from p.to) false ≡ Some k =
            ap (λ x. terminal_in form x (slice_range t p.from p.to) false) kind ∙ sees_end form (slice_range t p.from p.to) false ∙ ap (λ x. Some x) same in
            before.clean (lex before.notes p.from p.to k ∷ ts) (record { pieces = p ∷ []; read = ended_of form Second t at p next kind; same = rw end.1 (rw last refl) })
        | inr more ↦
            let h = more.1 in
            let now : terminal_in form p.kind (slice_range t p.from p.to) (begins_numeral p.to h.pieces) ≡ Some k =
            (λ i. terminal_in form p.kind (sym slice i) ((begins_numeral-digit form t p.to h.pieces h.read ∙ sym flag) i)) ∙ seen in
            before.clean (lex before.notes p.from p.to k ∷ ts) (record {
              pieces = p ∷ h.pieces;
              read = further_of form Second t at p h.pieces None next (other more.0) h.read;
              same = rw now (ap (λ x. lex before.notes p.from p.to k ∷ x) h.same);
            })
      ];
      fault = λ f n h. before.fault f (p ∷ h.0, further_of form Second t at p h.0 (Some f) next (other n) h.1);
    }

-- a comment goes further
pub comment_further : (form : Form) (t : Text) (at : ℕ) (p : Piece) (s : Text) (b : Bool) → IsNextOf form Second t at p → terminal_in form p.kind s b ≡ None → at < p.to
comment_further form t at p s b next none =
    let kind = comment_kind form p.kind s b none in
    next_further form t at p next (λ e. let f : Comment ≡ End = sym kind ∙ e in cc)
