-- Tokens of a clean text that the machine of the grammar reads.
use Rattle.std.proofs.Common.{◌≡◌, ◌≢◌, ℕ, inl, inr, List, [], ◌∷◌, Some, None, refl, sym, ◌∙◌, ap, subst}
use Rattle.std.specs.Option.{option_map_or}
use Rattle.token_model.specs.declared.kind.Dialect.TheVariants.{Second}
use Rattle.tree_model.specs.Tree.{Notes, LiteralOf}
use Rattle.grammar_model.specs.Terminal.{Text}
use Rattle.grammar_model.specs.Input as input
use Rattle.grammar_model.specs.Input.{lex}
use Rattle.grammar_model.specs.PatternTokens.{IsLexedAs}
use Rattle.grammar_model.specs.Whole.{Form}
use Rattle.grammar_model.specs.Checks.{first_deep}
use Rattle.grammar_model.specs.Spelling.{HasFirstFaultAs, InGrammar}
use Rattle.grammar_model.specs.Machine.{Stack, start, step, run, wish, may_start, At, fault_at}
use Rattle.grammar_model.proofs.Stacks.{IsNil, IsGood, GoodIfSome}
use Rattle.grammar_model.proofs.Steps.{good_step, EmptyIfSome, good_end}
use Rattle.grammar_model.proofs.Stops.{good_start, first_fault}
use Rattle.grammar_model.proofs.WholeTexts.{gets_text}
use Rattle.st_faults.specs.declared.sort.Sort.TheVariants.{TextEnd}
use Rattle.st_faults.specs.declared.lexeme.Lexeme.{Lexeme}
use Rattle.st_faults.specs.declared.fault.ParseFault.{ParseFault}
use Rattle.st_faults.specs.Sorts.{terminal}
use Rattle.st_faults.specs.Lexing.{IsLexedFrom, IsBehind}
use Rattle.st_faults.specs.Faults.{IsClean, IsRead, IsRefused, fault_of}
use Rattle.st_faults.proofs.Listed.{lexed_from}
use Rattle.st_faults.proofs.Passing.{Split}

-- the tokens before a place led the machine to a stack
pub record Reading (form : Form) (t : Text) (at : ℕ) (ss : Stack) : Type 0 where
  pub tokens : List input.Lexeme
  pub lexed : IsLexedAs form Second t tokens
  pub shallow : first_deep 0 tokens ≡ None
  pub rest : List input.Lexeme
  pub left : IsLexedFrom form t at [] rest
  pub same : run (start form) tokens ≡ run ss rest
  pub good : IsGood ss

-- no token was read
pub reads_none : (form : Form) (t : Text) (ss : Stack) → IsClean form t → ss ≡ start form → Reading form t 0 ss
reads_none form t ss clean first = record {
  tokens = clean.tokens;
  lexed = clean.lexed;
  shallow = clean.shallow;
  rest = clean.tokens;
  left = lexed_from form t clean.tokens clean.lexed;
  same = ap (λ ss. run ss clean.tokens) (sym first);
  good = subst IsGood (sym first) (good_start form);
}

-- the machine goes on behind a token
pub goes_behind : (l : Lexeme) (ss new : Stack) (notes : Notes) (s : Text) (k : LiteralOf Text) (ts : List input.Lexeme) → step ss (terminal l.sort s k) ≡ Some new → run ss (lex notes l.from l.to (terminal l.sort s k) ∷ ts) ≡ run new ts
goes_behind l ss new notes s k ts e =
    let left = lex notes l.from l.to (terminal l.sort s k) ∷ ts in
    ap (λ o. option_map_or (λ s'. run s' ts) o (Some (At left (wish ss) (may_start ss)))) e

-- the machine goes on behind the first token
goes_on : (form : Form) (t : Text) (l : Lexeme) (ss new : Stack) (ts : List input.Lexeme) (s : Split form t l ts) → step ss (terminal l.sort s.text s.literal) ≡ Some new → run ss ts ≡ run new s.rest
goes_on form t l ss new ts s e = ap (run ss) s.whole ∙ goes_behind l ss new s.notes s.text s.literal s.rest e

-- the tokens behind one that is not the end
pub rest_behind : (form : Form) (t : Text) (l : Lexeme) (ts : List input.Lexeme) → l.sort ≢ TextEnd → IsBehind form t l ts → IsLexedFrom form t l.to [] ts
rest_behind form t l ts other (inl end) = absurd (other end.0)
rest_behind form t l ts other (inr more) = more.1

-- nothing stands behind the end
none_behind : (form : Form) (t : Text) (l : Lexeme) (ts : List input.Lexeme) → l.sort ≡ TextEnd → IsBehind form t l ts → ts ≡ []
none_behind form t l ts end (inl last) = last.1
none_behind form t l ts end (inr more) = absurd (more.0 end)

-- one more token
pub reads_one : (form : Form) (t : Text) (at : ℕ) (l : Lexeme) (ss new : Stack) (r : Reading form t at ss) → (s : Split form t l r.rest) → l.sort ≢ TextEnd → step ss (terminal l.sort s.text s.literal) ≡ Some new → Reading form t l.to new
reads_one form t at l ss new r s other e = record {
  tokens = r.tokens;
  lexed = r.lexed;
  shallow = r.shallow;
  rest = s.rest;
  left = rest_behind form t l s.rest other s.behind;
  same = r.same ∙ goes_on form t l ss new r.rest s e;
  good = subst GoodIfSome e (good_step ss (terminal l.sort s.text s.literal) r.good);
}

-- where nothing is left to come, all is well
pub run_nil : (ss : Stack) → IsNil ss → run ss [] ≡ None
run_nil [] n = refl
run_nil (p ∷ ss) n = absurd n

-- the last token
pub reads_last : (form : Form) (t : Text) (at : ℕ) (l : Lexeme) (ss new : Stack) (r : Reading form t at ss) → (s : Split form t l r.rest) → l.sort ≡ TextEnd → step ss (terminal l.sort s.text s.literal) ≡ Some new → IsRead form t
reads_last form t at l ss new r s end e =
    let empty : IsNil new = subst EmptyIfSome (ap (λ x. step ss (terminal x s.text s.literal)) (sym end) ∙ e) (good_end ss r.good) in
    let over : run (start form) r.tokens ≡ None =
    r.same ∙ goes_on form t l ss new r.rest s e ∙ ap (run new) (none_behind form t l s.rest end s.behind) ∙ run_nil new empty in
    record { tokens = r.tokens; lexed = r.lexed; shallow = r.shallow; grammar = gets_text form r.tokens over }

-- a token that cannot stand
pub reads_no_more : (form : Form) (t : Text) (at : ℕ) (l : Lexeme) (ss : Stack) (answer : ParseFault) (r : Reading form t at ss) → (s : Split form t l r.rest) → step ss (terminal l.sort s.text s.literal) ≡ None →
    fault_of answer ≡ Some (fault_at form (lex s.notes l.from l.to (terminal l.sort s.text s.literal) ∷ s.rest) (wish ss) (may_start ss)) → IsRefused form t answer
reads_no_more form t at l ss answer r s e told =
    let left = lex s.notes l.from l.to (terminal l.sort s.text s.literal) ∷ s.rest in
    let stops : run (start form) r.tokens ≡ Some (At left (wish ss) (may_start ss)) =
    r.same ∙ ap (run ss) s.whole ∙ ap (λ o. option_map_or (λ s'. run s' s.rest) o (Some (At left (wish ss) (may_start ss)))) e in
    let fault : HasFirstFaultAs form t (fault_at form left (wish ss) (may_start ss)) =
    InGrammar r.lexed r.shallow (first_fault form r.tokens left (wish ss) (may_start ss) stops) in
    rw told fault
