-- What lines of `addParameter` ask for: behind the word stand two selectors and a variable, and then a literal, to the end of the line.
use Rattle.std.specs.Prelude.{◌≡◌, Bool, false, ◌&&◌, if◌then◌else◌, [], ◌∷◌, take, drop, Option, Some, None, Result, Ok, Err}
use Rattle.std.specs.List.{list_all}
use Rattle.std.specs.Option.{option_map_or}
use Rattle.token_model.specs.Bytes.{is_blank}
use Rattle.token_model.specs.declared.kind.Dialect.TheVariants.{Second}
use Rattle.tree_model.specs.Tree.{LiteralOf, word, TreeOf, var, literal, StatementsOf, no_statements, more_statements}
use Rattle.grammar_model.specs.Words.{is_literal_word}
use Rattle.grammar_model.specs.Whole.{DoIt}
use Rattle.grammar_model.specs.Spanned.{SpannedSequence, plain_statements}
use Rattle.grammar_model.specs.Spans.{Span, span_at}
use Rattle.grammar_model.specs.Checks.{Fault}
use Rattle.grammar_model.specs.Spelling.{SpellsDoItAt, HasFirstFault}
use Rattle.text_model.specs.Literals.{is_identifier, is_selector}
use Rattle.command_model.specs.Commands.{AddParameter}
use Rattle.session_model.specs.Scripts.{Request}
use Rattle.script_model.specs.Makers.{Text, single}
use Rattle.script_model.specs.Commands.{Cause, BadArgument}
use Rattle.script_model.specs.Additions.{first_word, behind_word}

-- a parameter that comes: the selector that takes it, that selector with it, its name, and the text of what messages pass for it
pub record Parameter : Type 0 where
  pub selector : Text
  pub to : Text
  pub name : Text
  pub passed : Text

-- these parts, where the words are spelled as they are to be
abbrev pub parameter : Text → Text → Text → Text → Option Parameter
parameter s t x passed =
    if is_selector s && (is_selector t && is_identifier x) then Some (record { selector = s; to = t; name = x; passed = passed }) else None

-- what the text behind the command's word says
abbrev pub parameter_of : Text → Option Parameter
parameter_of t =
    let behind_selector = behind_word t in
    let behind_to = behind_word behind_selector in
    parameter (first_word t) (first_word behind_selector) (first_word behind_to) (behind_word behind_to)

-- the literal that a node is: one of the grammar, or `nil`, `true` or `false`
abbrev pub literal_of : TreeOf Text → Option (LiteralOf Text)
literal_of (literal l) = Some l
literal_of (var n) = if is_literal_word n then Some (word n) else None
literal_of t = None

-- the literal that the only statement is
abbrev pub only_literal : StatementsOf Text → Option (LiteralOf Text)
only_literal (more_statements c node no_statements) = literal_of node
only_literal ss = None

-- whether nothing but blanks stands in front of a node and behind it
abbrev pub is_alone : Text → Span → Bool
is_alone t span = list_all is_blank (take span.from t) && list_all is_blank (drop span.to t)

-- whether the first statement of a do-it stands so
abbrev pub stands_alone : Text → SpannedSequence → Bool
stands_alone t s = option_map_or (is_alone t) (span_at s (0 ∷ [])) false

-- The literal that a text is, by its tree as a do-it. Nothing but blanks stands beside it: no comment, parentheses, period or bars.
abbrev pub literal_in : Text → SpannedSequence → Option (LiteralOf Text)
literal_in t s = if stands_alone t s then only_literal (plain_statements s.statements) else None

-- what a parameter asks for with a literal, where there is one
abbrev pub passing : Parameter → Option (LiteralOf Text) → Result Request Cause
passing p None = Err BadArgument
passing p (Some l) = Ok (single (AddParameter p.selector p.to p.name l))

-- what `addParameter` asks for with a text behind it: a parameter, for which messages pass the literal that the rest of the text is; or nothing, where a word is missing or wrong, or the rest is no literal
pub data AddsParameter (t : Text) (answer : Result Request Cause) : Type 0 where
  Read : (p : Parameter) (tree : SpannedSequence) → parameter_of t ≡ Some p → SpellsDoItAt Second p.passed tree → answer ≡ passing p (literal_in p.passed tree) → AddsParameter t answer
  Wordless : parameter_of t ≡ None → answer ≡ Err BadArgument → AddsParameter t answer
  Unreadable : (p : Parameter) (fault : Fault) → parameter_of t ≡ Some p → HasFirstFault Second DoIt p.passed fault → answer ≡ Err BadArgument → AddsParameter t answer
