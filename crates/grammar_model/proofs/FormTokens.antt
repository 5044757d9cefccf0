-- The tokens of a text of any form, seen alike: what stands first, and what stands behind it.
use Rattle.std.proofs.Common.{◌≡◌, ◌≢◌, ℕ, ◌<◌, ◌≤◌, inl, inr, Bool, List, [], ◌∷◌, length, Option, Some, None, refl, sym, ◌∙◌, ap}
use Rattle.std.proofs.lemmas.Bool.{false≢true}
use Rattle.token_model.specs.Bytes.{is_blank, is_digit, Passes, IsRun}
use Rattle.token_model.specs.Tokens.{IsToken}
use Rattle.token_model.specs.TokenLists.{Piece, HasTokens}
use Rattle.token_model.specs.TokenLists as plain
use Rattle.token_model.specs.declared.kind.Dialect.{Dialect}
use Rattle.token_model.specs.declared.kind.TokenKind.{TokenKind}
use Rattle.token_model.specs.declared.kind.TokenKind.TheVariants.{Identifier, Keyword, End}
use Rattle.token_model.specs.declared.fault.LexFault.{LexFault}
use Rattle.token_model.proofs.Begins.{lists}
use Rattle.token_model.proofs.Lists.{HasTokens-same}
use Rattle.grammar_model.specs.Terminal.{Text}
use Rattle.grammar_model.specs.Input.{Lexeme}
use Rattle.grammar_model.specs.Lexemes.{lexemes_by}
use Rattle.grammar_model.specs.PatternTokens as pattern
use Rattle.grammar_model.specs.PatternTokens.{MayMark, IsMeta, IsPatternToken, HasPatternTokens, IsNextOf, IsNextFaultOf, HasTokensOf, IsLexedAs, terminal_in}
use Rattle.grammar_model.specs.Whole.{Form, DoIt, Method, PatternText}
use Rattle.grammar_model.proofs.MetaTokens.{IsPatternToken-cases, HasPatternTokens-same, pattern_lists}

-- what is known of the tokens from a place on: the end, a fault, or a token and those behind it
pub data TokensOf (form : Form) (d : Dialect) (t : Text) (at : ℕ) : List Piece → Option LexFault → Type 0 where
  EndsHere : (p : Piece) → IsNextOf form d t at p → p.kind ≡ End → TokensOf form d t at (p ∷ []) None
  StopsHere : (fault : LexFault) → IsNextFaultOf form d t at fault → TokensOf form d t at [] (Some fault)
  GoesOn : (p : Piece) (ps : List Piece) (fault : Option LexFault) → IsNextOf form d t at p → p.kind ≢ End → HasTokensOf form d t p.to ps fault → TokensOf form d t at (p ∷ ps) fault

-- the tokens of texts that are no patterns
plain_tokens : (d : Dialect) (t : Text) (at : ℕ) (ps : List Piece) (f : Option LexFault) → HasTokens d t at ps f → TokensOf DoIt d t at ps f
plain_tokens d t at ps f (plain.Ended _ p n e) = EndsHere p n e
plain_tokens d t at ps f (plain.Stopped _ x n) = StopsHere x n
plain_tokens d t at ps f (plain.Further _ p qs g n e r) = GoesOn p qs g n e r

-- the tokens of a method
method_tokens : (kernel : Bool) (d : Dialect) (t : Text) (at : ℕ) (ps : List Piece) (f : Option LexFault) → HasTokens d t at ps f → TokensOf (Method kernel) d t at ps f
method_tokens kernel d t at ps f (plain.Ended _ p n e) = EndsHere p n e
method_tokens kernel d t at ps f (plain.Stopped _ x n) = StopsHere x n
method_tokens kernel d t at ps f (plain.Further _ p qs g n e r) = GoesOn p qs g n e r

-- the tokens of a pattern
pattern_tokens : (d : Dialect) (t : Text) (at : ℕ) (ps : List Piece) (f : Option LexFault) → HasPatternTokens d t at ps f → TokensOf PatternText d t at ps f
pattern_tokens d t at ps f (pattern.Ended _ p n e) = EndsHere p n e
pattern_tokens d t at ps f (pattern.Stopped _ x n) = StopsHere x n
pattern_tokens d t at ps f (pattern.Further _ p qs g n e r) = GoesOn p qs g n e r

-- the tokens of a text of any form
pub tokens_of : (form : Form) (d : Dialect) (t : Text) (at : ℕ) (ps : List Piece) (f : Option LexFault) → HasTokensOf form d t at ps f → TokensOf form d t at ps f
tokens_of DoIt d t at ps f h = plain_tokens d t at ps f h
tokens_of (Method kernel) d t at ps f h = method_tokens kernel d t at ps f h
tokens_of PatternText d t at ps f h = pattern_tokens d t at ps f h

-- the end is a list of tokens
pub ended_of : (form : Form) (d : Dialect) (t : Text) (at : ℕ) (p : Piece) → IsNextOf form d t at p → p.kind ≡ End → HasTokensOf form d t at (p ∷ []) None
ended_of DoIt d t at p n e = plain.Ended at p n e
ended_of (Method kernel) d t at p n e = plain.Ended at p n e
ended_of PatternText d t at p n e = pattern.Ended at p n e

-- a fault ends such a list
pub stopped_of : (form : Form) (d : Dialect) (t : Text) (at : ℕ) (f : LexFault) → IsNextFaultOf form d t at f → HasTokensOf form d t at [] (Some f)
stopped_of DoIt d t at f n = plain.Stopped at f n
stopped_of (Method kernel) d t at f n = plain.Stopped at f n
stopped_of PatternText d t at f n = pattern.Stopped at f n

-- a token stands before such a list
pub further_of : (form : Form) (d : Dialect) (t : Text) (at : ℕ) (p : Piece) (ps : List Piece) (f : Option LexFault) → IsNextOf form d t at p → p.kind ≢ End → HasTokensOf form d t p.to ps f → HasTokensOf form d t at (p ∷ ps) f
further_of DoIt d t at p ps f n e r = plain.Further at p ps f n e r
further_of (Method kernel) d t at p ps f n e r = plain.Further at p ps f n e r
further_of PatternText d t at p ps f n e r = pattern.Further at p ps f n e r

-- a text of a form has one list of tokens and one end
pub HasTokensOf-same : (form : Form) (d : Dialect) (t : Text) (at : ℕ) (ps qs : List Piece) (e f : Option LexFault) → HasTokensOf form d t at ps e → HasTokensOf form d t at qs f → (ps ≡ qs) × (e ≡ f)
HasTokensOf-same DoIt d t at ps qs e f h g = HasTokens-same d t at ps qs e f h g
HasTokensOf-same (Method kernel) d t at ps qs e f h g = HasTokens-same d t at ps qs e f h g
HasTokensOf-same PatternText d t at ps qs e f h g = HasPatternTokens-same d t at ps qs e f h g

-- from each place on it has such a list
pub lists_of : (form : Form) (d : Dialect) (t : Text) (at : ℕ) → at ≤ length t → (ps : List Piece) × (f : Option LexFault) × HasTokensOf form d t at ps f
lists_of DoIt d t at le = lists d t at le
lists_of (Method kernel) d t at le = lists d t at le
lists_of PatternText d t at le = pattern_lists d t at le

-- the tokens of a text of a form, from their list
pub lexed_as : (form : Form) (d : Dialect) (t : Text) (ps : List Piece) → HasTokensOf form d t 0 ps None → IsLexedAs form d t (lexemes_by (terminal_in form) t [] ps)
lexed_as DoIt d t ps h = record { pieces = ps; read = h; same = refl }
lexed_as (Method kernel) d t ps h = record { pieces = ps; read = h; same = refl }
lexed_as PatternText d t ps h = record { pieces = ps; read = h; same = refl }

-- the list of those tokens
pub pieces_as : (form : Form) (d : Dialect) (t : Text) (ts : List Lexeme) → IsLexedAs form d t ts → (ps : List Piece) × HasTokensOf form d t 0 ps None × (ts ≡ lexemes_by (terminal_in form) t [] ps)
pieces_as DoIt d t ts l = (l.pieces, l.read, l.same)
pieces_as (Method kernel) d t ts l = (l.pieces, l.read, l.same)
pieces_as PatternText d t ts l = (l.pieces, l.read, l.same)

-- only blanks stand before the next token
pub blanks_of : (form : Form) (d : Dialect) (t : Text) (at : ℕ) (p : Piece) → IsNextOf form d t at p → IsRun is_blank t at p.from
blanks_of DoIt d t at p n = n.blanks
blanks_of (Method kernel) d t at p n = n.blanks
blanks_of PatternText d t at p n = n.blanks

-- the next token is one of other texts or a metavariable
pub token_of : (form : Form) (d : Dialect) (t : Text) (at : ℕ) (p : Piece) → IsNextOf form d t at p → IsPatternToken d p.kind t p.from p.to
token_of DoIt d t at p n = inl n.token
token_of (Method kernel) d t at p n = inl n.token
token_of PatternText d t at p n = n.token

-- a token but the end has a byte
pub some_of : (form : Form) (d : Dialect) (t : Text) (at : ℕ) (p : Piece) → IsNextOf form d t at p → p.kind ≢ End → p.from < p.to
some_of form d t at p n other = elim (IsPatternToken-cases d p.kind t p.from p.to (token_of form d t at p n)) [
  | inl (end, _, _) ↦ absurd (other end)
  | inr s ↦ s.some
]

-- a token that is no word is one of other texts
pub no_word_of : (d : Dialect) (kind : TokenKind) (t : Text) (i j : ℕ) → IsPatternToken d kind t i j → kind ≢ Identifier → kind ≢ Keyword → IsToken d kind t i j
no_word_of d kind t i j (inl h) a b = h
no_word_of d Identifier t i j (inr h) a b = absurd (a refl)
no_word_of d Keyword t i j (inr h) a b = absurd (b refl)
no_word_of d kind t i j (inr h) a b = absurd h.mark

-- a token that begins with a digit is one of other texts
pub digit_of : (d : Dialect) (kind : TokenKind) (t : Text) (i j : ℕ) → IsPatternToken d kind t i j → Passes is_digit t i → IsToken d kind t i j
digit_of d kind t i j (inl h) digit = h
digit_of d kind t i j (inr h) digit = absurd (false≢true (sym (ap is_digit h.quote) ∙ digit))
