-- The examples are judged rightly.
use Rattle.std.proofs.Common.{◌≡◌, List, [], ◌∷◌, Option, Some, None, map, refl, subst, false}
use Rattle.grammar_model.specs.Input.{Lexeme, Input, kind_of, next}
use Rattle.grammar_model.specs.Whole.{Form, IsMethod, IsDoIt, UnaryPattern, WithBars, Plainly}
use Rattle.grammar_model.specs.Checks.{Fault}
use Rattle.grammar_model.specs.Spelling.{HasStop}
use Rattle.grammar_model.specs.Ahead.{Longest, NoAssignment, NoBinary, NoSemicolon, NoUnary, NoKey}
use Rattle.grammar_model.specs.Spanned.{SpannedTree}
use Rattle.grammar_model.specs.Chain.{Alone}
use Rattle.grammar_model.specs.Literals.{Unsigned}
use Rattle.grammar_model.specs.Grammar.{OneName, NoNames, OneParameter, NoParameters, DeclaresNone, Expression, Assigned, Simple, Operand, Variable, LiteralOperand, Grouped, BlockOperand, NoUnaries, NoBinaries, OneKeywords, NoKeywords, LastPart, ArgumentOfKeyword, NoCascade, OneCascade, OneMessage, LastMessage, UnaryMessage, WithParameters, Sequenced, Returned, OneStatement, Ended, Unended, UnendedReturn}
use Rattle.grammar_model.specs.Machine.{start, run, Wrong, Missing, At, fault_at}
use Rattle.grammar_model.specs.Examples.{lexemes, Row, Judges, AllJudged, doits, methods, kernel_methods, a_text, its_tokens, its_lexemes, a_method, its_tree, a_doit, its_sequence}
use Rattle.grammar_model.specs.Lexemes.{lexemes_by, lexemes_of}
use Rattle.grammar_model.specs.PatternTokens.{pattern_terminal_of}
use Rattle.grammar_model.specs.PatternExamples.{patterns, a_pattern, its_pieces, its_metas}
use Rattle.grammar_model.proofs.WholeTexts.{gets_text}
use Rattle.grammar_model.proofs.Stops.{first_fault}

-- what the machine says of tokens: too few, or a fault or none
data Verdict : Type 0 where
  TooFew : Verdict
  Judged : Option Fault → Verdict

-- what it says by where it stops
abbrev verdict : Form → Option Wrong → Verdict
verdict form None = Judged None
verdict form (Some Missing) = TooFew
verdict form (Some (At left w b)) = Judged (Some (fault_at form left w b))

-- what it says is right
judged : (form : Form) (ts : List Lexeme) (fault : Option Fault) (o : Option Wrong) → run (start form) ts ≡ o → verdict form o ≡ Judged fault → Judges form ts fault
judged form ts None None r e = gets_text form ts r
judged form ts (Some fault) None r e = cc
judged form ts fault (Some Missing) r e = cc
judged form ts None (Some (At left w b)) r e = cc
judged form ts (Some fault) (Some (At left w b)) r e = let same : fault_at form left w b ≡ fault = cc in subst (HasStop form ts) same (first_fault form ts left w b r)

-- what it says of all rows is right
all_judged : (rs : List Row) → map (λ (r : Row). verdict r.form (run (start r.form) (lexemes 0 r.tokens))) rs ≡ map (λ (r : Row). Judged r.fault) rs → AllJudged rs
all_judged [] e = tt
all_judged (r ∷ rs) e =
    let first : verdict r.form (run (start r.form) (lexemes 0 r.tokens)) ≡ Judged r.fault = cc in
    let others : map (λ (r : Row). verdict r.form (run (start r.form) (lexemes 0 r.tokens))) rs ≡ map (λ (r : Row). Judged r.fault) rs = cc in
    (judged r.form (lexemes 0 r.tokens) r.fault (run (start r.form) (lexemes 0 r.tokens)) refl first, all_judged rs others)

-- the examples of do-its
pub judges_doits : AllJudged doits
judges_doits = all_judged doits refl

-- the examples of methods of users
pub judges_methods : AllJudged methods
judges_methods = all_judged methods refl

-- the examples of methods of the kernel
pub judges_kernel_methods : AllJudged kernel_methods
judges_kernel_methods = all_judged kernel_methods refl

-- the examples of patterns
pub judges_patterns : AllJudged patterns
judges_patterns = all_judged patterns refl

-- the example of a pattern's text
pub sees_metas : lexemes_by pattern_terminal_of a_pattern [] its_pieces ≡ its_metas
sees_metas = refl

-- the example of a text
pub sees_lexemes : lexemes_of a_text [] its_tokens ≡ its_lexemes
sees_lexemes = refl

-- a name or a numeral is an expression of its own
alone : {i j : Input} {t : SpannedTree} → NoAssignment (kind_of i) (kind_of (next i)) → Operand Longest i (Alone t) j → NoUnary (kind_of j) → NoBinary (kind_of j) → NoKey (kind_of j) → NoSemicolon (kind_of j) → Expression Longest i t j
alone plain o a b k c = Simple plain o (NoUnaries a) (NoBinaries b) (NoKeywords k) (NoCascade tt c)

-- the example of a method has its tree
pub spells_method : IsMethod Longest false a_method its_tree
spells_method = record {
  begin = _;
  stop = _;
  pattern = UnaryPattern refl;
  behind = Plainly (WithBars refl (OneName refl (NoNames tt)) refl
      (OneStatement (Assigned refl refl (alone tt (LiteralOperand (Unsigned refl)) tt tt tt tt))
      (Ended refl (Returned refl (alone tt (Variable refl) tt tt tt tt) (UnendedReturn tt)))));
  over = record { notes = _; from = _; to = _; over = refl; tail_is = refl };
}

-- the example of a do-it has its tree
pub spells_doit : IsDoIt Longest a_doit its_sequence
spells_doit = record {
  stop = _;
  sequence = Sequenced (DeclaresNone tt)
      (OneStatement
      (Simple tt (Grouped refl (alone tt (Variable refl) tt tt tt tt) refl) (NoUnaries tt) (NoBinaries tt)
      (OneKeywords (LastPart refl
      (ArgumentOfKeyword (BlockOperand refl (WithParameters refl (OneParameter refl refl (NoParameters tt)) refl (Sequenced (DeclaresNone tt) (OneStatement (alone tt (Variable refl) tt tt tt tt) (Unended tt)))) refl) (NoUnaries tt) (NoBinaries tt) tt) tt))
      (OneCascade refl (OneMessage refl (UnaryMessage refl) (LastMessage tt))))
      (Unended tt));
  over = record { notes = _; from = _; to = _; over = refl; tail_is = refl };
}
