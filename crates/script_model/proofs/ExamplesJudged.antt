-- The examples are as the definitions have them.
use Rattle.std.proofs.Common.{◌≡◌, Bool, true, false, not, ◌&&◌, List, [], ◌∷◌, map, Some, None, refl, sym, ap, ◌∙◌, codes, arith, true≢false}
use Rattle.std.specs.Prelude.{ℕ, Result, Ok, Err}
use Rattle.std.specs.List.{list_all}
use Rattle.token_model.specs.declared.kind.Dialect.TheVariants.{Second}
use Rattle.tree_model.specs.Tree.{Notes}
use Rattle.grammar_model.specs.Spanned.{NoStatements, MoreStatements, SpannedSequence, SpannedStatements}
use Rattle.grammar_model.specs.Spelling.{SpellsDoItAt}
use Rattle.script_model.specs.Makers.{Text}
use Rattle.script_model.specs.Parameters.{Parameter, parameter_of, literal_in, passing, Read, Wordless}
use Rattle.history_model.specs.Rules.{Undo, Redo}
use Rattle.session_model.specs.Scripts.{Request}
use Rattle.script_model.specs.Commands.{Cause, UnknownCommand, BadArgument}
use Rattle.script_model.specs.Lines.{lines_of, is_skipped}
use Rattle.script_model.specs.Additions.{addition_of, behind_word, Spelled, Incomplete}
use Rattle.script_model.specs.Scripts.{said, adds_method, adds_parameter, applies_rule, command_answer, LineSays, OfCommand, InWords, InText, InLiteral, IsRefused}
use Rattle.script_model.specs.Examples.{Row, AllSaid, commands, wrong_lines, wrong_additions, IsAddition, ParameterRow, AllPassed, wrong_parameters, parameters, IsExample, AllRefused, refused_scripts, HasLimit}

-- whether a line has nothing but words
abbrev is_plain : Text → Bool
is_plain line = not (applies_rule line) && (not (adds_method line) && not (adds_parameter line))

abbrev all_plain : List Row → Bool
all_plain rs = list_all (λ (r : Row). is_plain r.line) rs

and_both : (a b : Bool) → (a && b) ≡ true → (a ≡ true) × (b ≡ true)
and_both true b e = (refl, e)
and_both false b e = absurd (true≢false (sym e))

in-words : (line : Text) (said_so : Result Request Cause) → is_plain line ≡ true → said_so ≡ said line → LineSays line (command_answer said_so)
in-words line said_so plain says = by (applies_rule line) (adds_method line) (adds_parameter line) refl refl refl plain
  where
    by : (r a b : Bool) → applies_rule line ≡ r → adds_method line ≡ a → adds_parameter line ≡ b → (not r && (not a && not b)) ≡ true → LineSays line (command_answer said_so)
    by true a b o p q e = absurd (true≢false (sym e))
    by false true b o p q e = absurd (true≢false (sym e))
    by false false true o p q e = absurd (true≢false (sym e))
    by false false false o p q e = OfCommand said_so o (InWords p q says) refl

-- rows are right whose lines have nothing but words and say what stands in them
all_said : (rs : List Row) → all_plain rs ≡ true → map (λ (r : Row). said r.line) rs ≡ map (λ (r : Row). r.says) rs → AllSaid rs
all_said [] plain e = tt
all_said (r ∷ rs) plain e =
    let first : said r.line ≡ r.says = cc in
    let others : map (λ (s : Row). said s.line) rs ≡ map (λ (s : Row). s.says) rs = cc in
    let p = and_both (is_plain r.line) (all_plain rs) plain in
    (in-words r.line r.says p.0 (sym first), all_said rs p.1 others)

-- lines that ask for something
pub says_commands : AllSaid commands
says_commands = all_said commands refl refl

-- lines that are wrong
pub finds_wrong_lines : AllSaid wrong_lines
finds_wrong_lines = all_said wrong_lines refl refl

-- lines of `addMethod` that are wrong
adds_not : (line : Text) → applies_rule line ≡ false → adds_method line ≡ true → addition_of (behind_word line) ≡ None → LineSays line (Err BadArgument)
adds_not line plain adds none = OfCommand (Err BadArgument) plain (InText adds (Incomplete none refl)) refl

pub finds_wrong_additions : AllSaid wrong_additions
finds_wrong_additions = (
  adds_not _ refl refl refl,
  (adds_not _ refl refl refl, (adds_not _ refl refl refl, (adds_not _ refl refl refl, (adds_not _ refl refl refl, tt)))),
)

-- a line of `addMethod`
pub adds : IsAddition
adds tree spells = OfCommand _ refl (InText refl (Spelled (record { class = codes "C"; meta = true; protocol = codes "accessing"; text = codes "x ^x  " }) tree refl spells refl)) refl

-- lines of `addParameter` whose words are wrong
passes_nothing : (line : Text) → applies_rule line ≡ false → adds_parameter line ≡ true → parameter_of (behind_word line) ≡ None → LineSays line (Err BadArgument)
passes_nothing line plain adds none = OfCommand (Err BadArgument) plain (InLiteral adds (Wordless none refl)) refl

pub finds_wrong_parameters : AllSaid wrong_parameters
finds_wrong_parameters = (
  passes_nothing _ refl refl refl,
  (passes_nothing _ refl refl refl, (passes_nothing _ refl refl refl, (passes_nothing _ refl refl refl, (passes_nothing _ refl refl refl, tt)))),
)

-- the parameter of the examples
abbrev an_example : Text → Parameter
an_example passed = record { selector = codes "x"; to = codes "x:"; name = codes "y"; passed = passed }

-- a line of the examples whose text has one statement
reads : (r : ParameterRow) → applies_rule r.line ≡ false → adds_parameter r.line ≡ true → parameter_of (behind_word r.line) ≡ Some (an_example r.passed) →
    ((tree : SpannedSequence) (comments : Notes) (from : ℕ) → r.says ≡ passing (an_example r.passed) (literal_in r.passed (record tree { statements = MoreStatements comments from r.node NoStatements }))) →
    (tree : SpannedSequence) (comments : Notes) (from : ℕ) → SpellsDoItAt Second r.passed tree → tree.statements ≡ MoreStatements comments from r.node NoStatements → LineSays r.line (command_answer r.says)
reads r plain adds is says tree comments from spells one =
    OfCommand r.says plain
    (InLiteral adds
    (Read (an_example r.passed) tree is spells (says tree comments from ∙ ap (λ (ss : SpannedStatements). passing (an_example r.passed) (literal_in r.passed (record tree { statements = ss }))) (sym one)))) refl

-- lines of `addParameter` with a text behind their words
pub passes_parameters : AllPassed parameters
passes_parameters = (reads _ refl refl refl (λ tree comments from. refl), (reads _ refl refl refl (λ tree comments from. refl), (reads _ refl refl refl (λ tree comments from. refl), (reads _ refl refl refl (λ tree comments from. refl), (reads _ refl refl refl (λ tree comments from. refl), (reads _ refl refl refl (λ tree comments from. refl), (reads _ refl refl refl (λ tree comments from. refl), (reads _ refl refl refl (λ tree comments from. refl), (reads _ refl refl refl (λ tree comments from. refl), (reads _ refl refl refl (λ tree comments from. refl), tt))))))))))

-- a script
pub says_script : IsExample
says_script = record { each = (in-words (codes "undo") (Ok Undo) refl refl, (in-words (codes "redo") (Ok Redo) refl refl, tt)); few = omega arith }

-- a script whose first line is wrong
refused_first : (line : Text) (cause : Cause) (after : List Text) (text : Text) → lines_of text ≡ line ∷ after → is_skipped line ≡ false → LineSays line (Err cause) → IsRefused text 1 cause
refused_first line cause after text parts some says = record {
  before = [];
  line = line;
  after = after;
  requests = [];
  parts = parts;
  numbered = refl;
  said_before = record { each = tt; few = omega arith };
  says_something = some;
  wrong = record { answer = Err cause; says = says; wrong = refl };
}

-- scripts that are refused
pub refuses_scripts : AllRefused refused_scripts
refuses_scripts = (
  refused_first (codes "renameClass C 1") BadArgument (codes "rename C" ∷ []) _ refl refl (in-words (codes "renameClass C 1") (Err BadArgument) refl refl),
  (
    refused_first (codes "rename C") UnknownCommand (codes "renameClass C 1" ∷ []) _ refl refl (in-words (codes "rename C") (Err UnknownCommand) refl refl),
    (
      record {
        before = codes "undo" ∷ codes "--" ∷ [];
        line = codes "rename C";
        after = codes "renameClass" ∷ [];
        requests = Undo ∷ [];
        parts = refl;
        numbered = refl;
        said_before = record { each = (in-words (codes "undo") (Ok Undo) refl refl, tt); few = omega arith };
        says_something = refl;
        wrong = record { answer = Err UnknownCommand; says = in-words (codes "rename C") (Err UnknownCommand) refl refl; wrong = refl };
      },
      tt,
    ),
  ),
)

-- the limit
pub has_limit : HasLimit
has_limit = (refl, refl, refl, refl)
