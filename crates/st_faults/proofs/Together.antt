-- Tokens of any text that were read for their brackets and by the machine of the grammar at once.
use Rattle.std.proofs.Common.{◌≡◌, ◌≢◌, ℕ, ◌≤◌, inl, inr, true, List, [], ◌∷◌, ◌++◌, length, Some, None, refl, sym, ◌∙◌, ap, subst}
use Rattle.std.proofs.lemmas.Bool.{false≢true}
use Rattle.std.specs.Prelude.{Option, is_some}
use Rattle.std.specs.Option.{option_map_or}
use Rattle.token_model.specs.declared.kind.Dialect.TheVariants.{Second}
use Rattle.tree_model.specs.Tree.{Notes, LiteralOf}
use Rattle.grammar_model.specs.Terminal.{Text, Terminal}
use Rattle.grammar_model.specs.Input as input
use Rattle.grammar_model.specs.Input.{lex}
use Rattle.grammar_model.specs.PatternTokens.{IsLexedAs}
use Rattle.grammar_model.specs.Whole.{Form}
use Rattle.grammar_model.specs.Checks.{first_deep}
use Rattle.grammar_model.specs.Machine.{Stack, start, step, run, feeds, wish, may_start, At}
use Rattle.grammar_model.proofs.Stacks.{IsNil, IsGood, GoodIfSome}
use Rattle.grammar_model.proofs.Steps.{good_step, EmptyIfSome, good_end}
use Rattle.grammar_model.proofs.Stops.{good_start}
use Rattle.grammar_model.proofs.Continuing.{feeds-append, feeds_one}
use Rattle.grammar_model.proofs.WholeTexts.{gets_text, reads_text}
use Rattle.st_faults.specs.declared.sort.Sort.TheVariants.{TextEnd}
use Rattle.st_faults.specs.declared.lexeme.Lexeme.{Lexeme}
use Rattle.st_faults.specs.declared.brackets.Depth.{Depth}
use Rattle.st_faults.specs.declared.brackets.Depth.TheVariants.{Open, TooDeep}
use Rattle.st_faults.specs.Sorts.{terminal}
use Rattle.st_faults.specs.Lexing.{IsLexedFrom, IsFirst}
use Rattle.st_faults.specs.Depths.{deep_behind}
use Rattle.st_faults.specs.Faults.{IsRead}
use Rattle.st_faults.proofs.Listed.{next_inside, lexed_whole, lexed_from}
use Rattle.st_faults.proofs.Scanning.{Leads}
use Rattle.st_faults.proofs.Reading.{goes_behind, rest_behind, run_nil}
use Rattle.st_faults.proofs.Passing.{IsLexedFrom-same, split}

-- the tokens of the text, of which these are left: how deep their brackets are, and where they lead the machine
pub record Whole (form : Form) (t : Text) (d : Depth) (ss : Stack) (ts : List input.Lexeme) : Type 0 where
  pub tokens : List input.Lexeme
  pub lexed : IsLexedAs form Second t tokens
  pub depth : first_deep 0 tokens ≡ deep_behind d ts
  pub same : run (start form) tokens ≡ run ss ts

-- The tokens up to a place lead to a depth and to a stack of the machine. Where the text has no lexical fault, there are
-- tokens from the place on.
pub record Together (form : Form) (t : Text) (at : ℕ) (d : Depth) (ss : Stack) : Type 0 where
  pub whole : (ts : List input.Lexeme) → IsLexedFrom form t at [] ts → Whole form t d ss ts
  pub rest : (tokens : List input.Lexeme) → IsLexedAs form Second t tokens → (ts : List input.Lexeme) × IsLexedFrom form t at [] ts
  pub before : List Terminal
  pub reached : feeds (start form) before ≡ Some ss

-- a token of the sort leads from one stack to another
abbrev pub Moves : Lexeme → Stack → Stack → Type 0
Moves l ss new = (s : Text) (k : LiteralOf Text) → step ss (terminal l.sort s k) ≡ Some new

-- behind one token more
good_behind : (o : Option Stack) (ks : List Terminal) (to : Stack) → ((s : Stack) → IsGood s → feeds s ks ≡ Some to → IsGood to) → GoodIfSome o → option_map_or (λ s. feeds s ks) o None ≡ Some to → IsGood to
good_behind None ks to later good h = cc
good_behind (Some s) ks to later good h = later s good h

-- tokens lead from good stacks to good stacks
feeds_good : (ks : List Terminal) (ss to : Stack) → IsGood ss → feeds ss ks ≡ Some to → IsGood to
feeds_good [] ss to good h = let same : ss ≡ to = cc in subst IsGood same good
feeds_good (k ∷ ks) ss to good h = good_behind (step ss k) ks to (λ s. feeds_good ks s to) (good_step ss k good) h

-- what tokens lead to is good
together_good : (form : Form) (t : Text) (at : ℕ) (d : Depth) (ss : Stack) → Together form t at d ss → IsGood ss
together_good form t at d ss h = feeds_good h.before (start form) ss (good_start form) h.reached

-- a token ends inside the text
first_inside : (form : Form) (t : Text) (at : ℕ) (l : Lexeme) → IsFirst form t at l → l.to ≤ length t
first_inside form t at l first = next_inside form t first.place _ first.token

-- no token was read
pub together_none : (form : Form) (t : Text) (ss : Stack) → ss ≡ start form → Together form t 0 (Open 0) ss
together_none form t ss first = record {
  whole = λ ts h. record {
    tokens = ts;
    lexed = lexed_whole form t ts h;
    depth = refl;
    same = ap (λ ss. run ss ts) (sym first);
  };
  rest = λ tokens h. (tokens, lexed_from form t tokens h);
  before = [];
  reached = ap (λ s. Some s) (sym first);
}

-- the tokens of the text, of which this one is the next
behind : (form : Form) (t : Text) (at : ℕ) (l : Lexeme) (d e : Depth) (ss new : Stack) → Together form t at d ss → (first : IsFirst form t at l) → Leads l d e → Moves l ss new →
    (ts : List input.Lexeme) → IsLexedFrom form t at [] (lex first.notes l.from l.to (terminal l.sort first.text first.literal) ∷ ts) → Whole form t e new ts
behind form t at l d e ss new before first leads moves ts lexed =
    let w = before.whole (lex first.notes l.from l.to (terminal l.sort first.text first.literal) ∷ ts) lexed in
    record {
      tokens = w.tokens;
      lexed = w.lexed;
      depth = w.depth ∙ leads first.notes first.text first.literal ts;
      same = w.same ∙ goes_behind l ss new first.notes first.text first.literal ts (moves first.text first.literal);
    }

-- one more token
pub together_one : (form : Form) (t : Text) (at : ℕ) (l : Lexeme) (d e : Depth) (ss new : Stack) → Together form t at d ss → IsFirst form t at l → l.sort ≢ TextEnd → Leads l d e → Moves l ss new → Together form t l.to e new
together_one form t at l d e ss new before first other leads moves = record {
  whole = λ ts h. behind form t at l d e ss new before first leads moves ts (first.joined ts (inr (other, h)));
  rest = λ tokens h.
      let left = before.rest tokens h in
      let s = split form t at l left.0 first (first_inside form t at l first) left.1 in
      (s.rest, rest_behind form t l s.rest other s.behind);
  before = before.before ++ terminal l.sort first.text first.literal ∷ [];
  reached = feeds-append before.before (terminal l.sort first.text first.literal ∷ []) (start form) ss before.reached ∙
      feeds_one ss (terminal l.sort first.text first.literal) (Some new) (moves first.text first.literal);
}

-- the last token
pub together_last : (form : Form) (t : Text) (at : ℕ) (l : Lexeme) (d e : Depth) (ss new : Stack) → Together form t at d ss → IsFirst form t at l → l.sort ≡ TextEnd → Leads l d e → Moves l ss new → deep_behind e [] ≡ None → IsRead form t
together_last form t at l d e ss new before first end leads moves shallow =
    let w = behind form t at l d e ss new before first leads moves [] (first.joined [] (inl (end, refl))) in
    let empty : IsNil new = subst EmptyIfSome (ap (λ x. step ss (terminal x first.text first.literal)) (sym end) ∙ moves first.text first.literal) (good_end ss (together_good form t at d ss before)) in
    record { tokens = w.tokens; lexed = w.lexed; shallow = w.depth ∙ shallow; grammar = gets_text form w.tokens (w.same ∙ run_nil new empty) }

-- what is left of a text that is read: this token, and others behind it, with no bracket that is too deep, which the machine reads to the end
record Left (l : Lexeme) (d : Depth) (ss : Stack) : Type 0 where
  notes : Notes
  text : Text
  literal : LiteralOf Text
  behind : List input.Lexeme
  depth : deep_behind d (lex notes l.from l.to (terminal l.sort text literal) ∷ behind) ≡ None
  same : run ss (lex notes l.from l.to (terminal l.sort text literal) ∷ behind) ≡ None

-- what is left of a text that is read
left_of : (form : Form) (t : Text) (at : ℕ) (l : Lexeme) (d : Depth) (ss : Stack) → Together form t at d ss → IsFirst form t at l → IsRead form t → Left l d ss
left_of form t at l d ss before first read =
    let left = before.rest read.tokens read.lexed in
    let s = split form t at l left.0 first (first_inside form t at l first) left.1 in
    let w = before.whole left.0 left.1 in
    let all : w.tokens ≡ read.tokens = IsLexedFrom-same form t 0 [] w.tokens read.tokens (lexed_from form t w.tokens w.lexed) (lexed_from form t read.tokens read.lexed) in
    record {
      notes = s.notes;
      text = s.text;
      literal = s.literal;
      behind = s.rest;
      depth = ap (deep_behind d) (sym s.whole) ∙ sym w.depth ∙ ap (first_deep 0) all ∙ read.shallow;
      same = ap (run ss) (sym s.whole) ∙ sym w.same ∙ ap (run (start form)) all ∙ reads_text form read.tokens read.grammar;
    }

-- a bracket that is too deep stays so, whatever comes behind it
too_deep : (d : Depth) (ts : List input.Lexeme) → is_some (deep_behind d []) ≡ true → deep_behind d ts ≡ None → ⊥
too_deep (Open n) ts deep none = absurd (false≢true deep)
too_deep (TooDeep at) ts deep none = cc

-- a text with a bracket that is too deep is not read
pub together_deep : (form : Form) (t : Text) (at : ℕ) (l : Lexeme) (d e : Depth) (ss : Stack) → Together form t at d ss → IsFirst form t at l → Leads l d e → is_some (deep_behind e []) ≡ true → ¬ IsRead form t
together_deep form t at l d e ss before first leads deep = λ read.
    let left = left_of form t at l d ss before first read in
    too_deep e left.behind deep (sym (leads left.notes left.text left.literal left.behind) ∙ left.depth)

-- the machine stops at a token that cannot stand
stops : (l : Lexeme) (ss : Stack) (left : List input.Lexeme) (notes : Notes) (s : Text) (k : LiteralOf Text) → step ss (terminal l.sort s k) ≡ None → run ss (lex notes l.from l.to (terminal l.sort s k) ∷ left) ≡ None → ⊥
stops l ss left notes s k e none =
    let all = lex notes l.from l.to (terminal l.sort s k) ∷ left in
    let stop : run ss all ≡ Some (At all (wish ss) (may_start ss)) = ap (λ o. option_map_or (λ s'. run s' left) o (Some (At all (wish ss) (may_start ss)))) e in
    cc

-- a text with a token that cannot stand is not read
pub together_stops : (form : Form) (t : Text) (at : ℕ) (l : Lexeme) (d : Depth) (ss : Stack) → Together form t at d ss → IsFirst form t at l → ((s : Text) (k : LiteralOf Text) → step ss (terminal l.sort s k) ≡ None) → ¬ IsRead form t
together_stops form t at l d ss before first refuses = λ read.
    let left = left_of form t at l d ss before first read in
    stops l ss left.behind left.notes left.text left.literal (refuses left.text left.literal) left.same
