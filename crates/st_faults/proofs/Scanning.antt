-- Tokens that were read for their brackets.
use Rattle.std.proofs.Common.{◌≡◌, ◌≢◌, ℕ, List, [], ◌∷◌, refl, ◌∙◌, inl, inr}
use Rattle.token_model.specs.declared.kind.Dialect.TheVariants.{Second}
use Rattle.token_model.specs.declared.fault.LexFault.{LexFault}
use Rattle.tree_model.specs.Tree.{Notes, LiteralOf}
use Rattle.grammar_model.specs.Terminal.{Text}
use Rattle.grammar_model.specs.Input as input
use Rattle.grammar_model.specs.Input.{lex}
use Rattle.grammar_model.specs.PatternTokens.{IsLexedAs}
use Rattle.grammar_model.specs.Checks.{first_deep}
use Rattle.grammar_model.specs.Whole.{Form}
use Rattle.grammar_model.specs.Spelling.{InTokens, InBrackets}
use Rattle.st_faults.specs.declared.fault.ParseFault.{ParseFault}
use Rattle.st_faults.specs.declared.fault.ParseFault.TheVariants as fault
use Rattle.st_faults.specs.Faults.{IsUnclean, IsRefused}
use Rattle.st_faults.specs.declared.sort.Sort.TheVariants.{TextEnd}
use Rattle.st_faults.specs.declared.lexeme.Lexeme.{Lexeme}
use Rattle.st_faults.specs.declared.brackets.Depth.{Depth}
use Rattle.st_faults.specs.declared.brackets.Depth.TheVariants.{Open}
use Rattle.st_faults.specs.Sorts.{terminal}
use Rattle.st_faults.specs.Lexing.{IsLexedFrom, HasLexFault, IsFirst}
use Rattle.st_faults.specs.Depths.{deep_behind}
use Rattle.st_faults.proofs.Listed.{lexed_whole}

-- the tokens of the text, and how deep its brackets are
abbrev pub Found : Form → Text → Depth → List input.Lexeme → Type 0
Found form t d ts = (whole : List input.Lexeme) × IsLexedAs form Second t whole × (first_deep 0 whole ≡ deep_behind d ts)

-- the tokens up to a place lead to a depth
pub record Scanned (form : Form) (t : Text) (at : ℕ) (d : Depth) : Type 0 where
  pub clean : (ts : List input.Lexeme) → IsLexedFrom form t at [] ts → Found form t d ts
  pub fault : (fault : LexFault) → HasLexFault form t at fault → HasLexFault form t 0 fault

-- a token leads from one depth to another
abbrev pub Leads : Lexeme → Depth → Depth → Type 0
Leads l d e = (notes : Notes) (s : Text) (k : LiteralOf Text) (ts : List input.Lexeme) → deep_behind d (lex notes l.from l.to (terminal l.sort s k) ∷ ts) ≡ deep_behind e ts

-- no token was read
pub scanned_none : (form : Form) (t : Text) → Scanned form t 0 (Open 0)
scanned_none form t = record { clean = λ ts h. (ts, lexed_whole form t ts h, refl); fault = λ f h. h }

-- one more token
pub scanned_one : (form : Form) (t : Text) (at : ℕ) (l : Lexeme) (d e : Depth) → Scanned form t at d → IsFirst form t at l → l.sort ≢ TextEnd → Leads l d e → Scanned form t l.to e
scanned_one form t at l d e before first other leads = record {
  clean = λ ts h.
      let w = before.clean (lex first.notes l.from l.to (terminal l.sort first.text first.literal) ∷ ts) (first.joined ts (inr (other, h))) in
      (w.0, w.1, w.2 ∙ leads first.notes first.text first.literal ts);
  fault = λ f h. before.fault f (first.fault f other h);
}

-- the last token
pub scanned_last : (form : Form) (t : Text) (at : ℕ) (l : Lexeme) (d e : Depth) → Scanned form t at d → IsFirst form t at l → l.sort ≡ TextEnd → Leads l d e → Found form t e []
scanned_last form t at l d e before first end leads =
    let w = before.clean (lex first.notes l.from l.to (terminal l.sort first.text first.literal) ∷ []) (first.joined [] (inl (end, refl))) in
    (w.0, w.1, w.2 ∙ leads first.notes first.text first.literal [])

-- a text that is not clean is refused, whatever it is to be
pub refused : (form : Form) (t : Text) (answer : ParseFault) → IsUnclean form t answer → IsRefused form t answer
refused form t (fault.Lexical f) h = InTokens h.1
refused form t (fault.TooDeep at) h = InBrackets h.1 h.2
refused form t answer h = absurd h
