-- Some lines, and what they ask for or why they ask for nothing.
use Rattle.std.specs.Prelude.{◌≡◌, ℕ, true, false, List, [], ◌∷◌, ◌++◌, codes, Option, Some, None, Result, Ok, Err}
use Rattle.token_model.specs.declared.kind.Dialect.TheVariants.{Second}
use Rattle.tree_model.specs.Tree.{Notes, LiteralOf, number, char, array, word, no_literals, more_literals, MethodOf}
use Rattle.grammar_model.specs.Spanned.{SpannedTree, Var, Literal, Send, NoTrees, NoStatements, MoreStatements, SpannedSequence}
use Rattle.grammar_model.specs.Spelling.{SpellsDoItAt, SpellsMethod}
use Rattle.command_model.specs.Commands.{CommandOf, RenameClass, AddClass, RemoveClass, AddInstVar, RenameInstVar, RemoveInstVar, PushUpInstVar, PushDownInstVar, AddClassVar, RenameClassVar, RemoveClassVar, PushUpClassVar, PushDownClassVar, AddClassSideVar, RenameClassSideVar, RemoveClassSideVar, RenameSelector, RemoveMethod, PushUpMethod, PushDownMethod, AddMethod, AddParameter, RemoveParameter, AbstractInstVar, ExtractMethod, InlineMethod, ExtractTemp, InlineTemp, RenameTemp}
use Rattle.history_model.specs.Rules.{Perform, Undo, Redo}
use Rattle.session_model.specs.Actions.{ActionOf, CreateAccessors, ExtractSuperclass, PushUpWithMethods}
use Rattle.session_model.specs.Scripts.{Request}
use Rattle.pattern_model.specs.Rewritten.{RuleOf}
use Rattle.rewrite_model.specs.Saying.{SaysRule}
use Rattle.ruled_model.specs.RuledScripts.{Applies, as_line}
use Rattle.script_model.specs.Makers.{Text, single}
use Rattle.script_model.specs.Commands.{Cause, UnknownCommand, BadArgument, TooMany}
use Rattle.script_model.specs.Scripts.{said, command_answer, LineSays, Says, cause_of, IsRefused}

-- a line that asks for no rule, and what it asks for
pub record Row : Type 0 where
  pub line : Text
  pub says : Result Request Cause

-- each row is as the definition has it
abbrev pub AllSaid : List Row → Type 0
AllSaid [] = Unit {0}
AllSaid (r ∷ rs) = LineSays r.line (command_answer r.says) × AllSaid rs

-- a line that asks for something, for a command, and for a composite; and one that asks for nothing
abbrev pub asks : Text → Request → Row
asks line request = record { line = line; says = Ok request }

abbrev pub performs : Text → CommandOf Text → Row
performs line command = asks line (single command)

abbrev pub composes : Text → ActionOf Text → Row
composes line action = asks line (Perform action)

abbrev pub wrong : Text → Cause → Row
wrong line cause = record { line = line; says = Err cause }

-- names
abbrev pub c : Text
c = codes "C"

abbrev pub d : Text
d = codes "D"

abbrev pub x : Text
x = codes "x"

abbrev pub y : Text
y = codes "y"

abbrev pub put : Text
put = codes "at:put:"

abbrev pub commands : List Row
commands =
    performs (codes "renameClass C D") (RenameClass c d)
    ∷ performs (codes "  renameClass   D C ") (RenameClass d c)
    ∷ performs (codes "renameInstVar C x y") (RenameInstVar c x y)
    ∷ performs (codes "renameClassVar C x y") (RenameClassVar c x y)
    ∷ performs (codes "renameClassSideVar C x y") (RenameClassSideVar c x y)
    ∷ performs (codes "renameSelector at:put: +") (RenameSelector put (codes "+"))
    ∷ performs (codes "addClass C D") (AddClass c d [])
    ∷ performs (codes "addClass C D D C") (AddClass c d (d ∷ c ∷ []))
    ∷ performs (codes " removeClass   C ") (RemoveClass c)
    ∷ performs (codes "addInstVar C x") (AddInstVar c x)
    ∷ performs (codes "removeInstVar C x") (RemoveInstVar c x)
    ∷ performs (codes "pushUpInstVar C x") (PushUpInstVar c x)
    ∷ performs (codes "pushDownInstVar C x") (PushDownInstVar c x)
    ∷ performs (codes "addClassVar C x") (AddClassVar c x)
    ∷ performs (codes "removeClassVar C x") (RemoveClassVar c x)
    ∷ performs (codes "pushUpClassVar C x") (PushUpClassVar c x)
    ∷ performs (codes "pushDownClassVar C x D") (PushDownClassVar c x d)
    ∷ performs (codes "addClassSideVar C x") (AddClassSideVar c x)
    ∷ performs (codes "removeClassSideVar C x") (RemoveClassSideVar c x)
    ∷ performs (codes "removeMethod C instance at:put:") (RemoveMethod c false put)
    ∷ performs (codes "pushUpMethod C class x") (PushUpMethod c true x)
    ∷ performs (codes "pushDownMethod C class at:put:") (PushDownMethod c true put)
    ∷ performs (codes "removeParameter at:put: 2 x") (RemoveParameter put 2 x)
    ∷ performs (codes "removeParameter  x: 0 x") (RemoveParameter (codes "x:") 0 x)
    ∷ performs (codes "removeParameter + 999999999 x") (RemoveParameter (codes "+") 999999999 x)
    ∷ performs (codes "renameTemp C instance at:put: x y") (RenameTemp c false put x y)
    ∷ performs (codes "abstractInstVar C x") (AbstractInstVar c x (codes "x:") (codes "anObject"))
    ∷ performs (codes "extractMethod C instance x 0 12 at:put:") (ExtractMethod c false x 0 12 put)
    ∷ performs (codes "inlineMethod C instance x 8 999999999") (InlineMethod c false x 8 999999999)
    ∷ performs (codes "extractTemp C instance x 8 13 y") (ExtractTemp c false x 8 13 y)
    ∷ performs (codes "inlineTemp C class x y") (InlineTemp c true x y)
    ∷ composes (codes "createAccessors C x") (CreateAccessors c x (codes "x:") (codes "anObject"))
    ∷ composes (codes "createAccessors C anObject") (CreateAccessors c (codes "anObject") (codes "anObject:") (codes "aValue"))
    ∷ composes (codes "extractSuperclass C D C") (ExtractSuperclass c d (c ∷ []))
    ∷ composes (codes "pushUpWithMethods C x") (PushUpWithMethods c x)
    ∷ asks (codes "undo") Undo
    ∷ asks (codes "redo") Redo
    ∷ []

abbrev pub wrong_lines : List Row
wrong_lines =
    wrong (codes "rename C D") UnknownCommand
    ∷ wrong (codes "RenameClass C D") UnknownCommand
    ∷ wrong (codes " -- C") UnknownCommand
    ∷ wrong (codes "applyRules +1@") UnknownCommand
    ∷ wrong (codes "inlineTemp A") BadArgument
    ∷ wrong (codes "extractMethod C instance x 0 12") BadArgument
    ∷ wrong (codes "inlineMethod C instance x 08 12") BadArgument
    ∷ wrong (codes "extractTemp C instance x 8 13 y:") BadArgument
    ∷ wrong (codes "renameClass C") BadArgument
    ∷ wrong (codes "renameClass C D C") BadArgument
    ∷ wrong (codes "renameClass C 1") BadArgument
    ∷ wrong (codes "renameInstVar C x y:") BadArgument
    ∷ wrong (codes "renameSelector x +-") BadArgument
    ∷ wrong (codes "undo x") BadArgument
    ∷ wrong (codes "addClass C") BadArgument
    ∷ wrong (codes "addClass C D 3") BadArgument
    ∷ wrong (codes "addInstVar C x:") BadArgument
    ∷ wrong (codes "extractSuperclass C D") BadArgument
    ∷ wrong (codes "removeMethod C Instance x") BadArgument
    ∷ wrong (codes "removeParameter x: 02 y") BadArgument
    ∷ wrong (codes "removeParameter x: -2 y") BadArgument
    ∷ wrong (codes "removeParameter x: 1000000000 y") BadArgument
    ∷ wrong (codes "removeParameter x: 1") BadArgument
    ∷ wrong (codes "renameTemp C instance x y") BadArgument
    ∷ wrong (codes "renameTemp C instance x y z:") BadArgument
    ∷ []

-- lines of `addMethod` that are wrong
abbrev pub wrong_additions : List Row
wrong_additions =
    wrong (codes "addMethod") BadArgument
    ∷ wrong (codes "addMethod C instance accessing") BadArgument
    ∷ wrong (codes "addMethod C instance accessing  ") BadArgument
    ∷ wrong (codes "addMethod C Instance accessing x ^x") BadArgument
    ∷ wrong (codes "addMethod 1 instance accessing x ^x") BadArgument
    ∷ []

-- a line that adds the method that its text spells; blanks behind the protocol are no part of the text, and those at the end of the line are
abbrev pub an_addition : Text
an_addition = codes " addMethod C  class accessing   x ^x  "

abbrev pub IsAddition : Type 0
IsAddition = (tree : MethodOf Text) → SpellsMethod Second false (codes "x ^x  ") tree → LineSays an_addition (Ok (as_line (single (AddMethod c true (codes "accessing") (codes "x ^x  ") tree))))

-- lines of `addParameter` whose words are wrong
abbrev pub wrong_parameters : List Row
wrong_parameters =
    wrong (codes "addParameter") BadArgument
    ∷ wrong (codes "addParameter x x:") BadArgument
    ∷ wrong (codes "addParameter 1 x: y 3") BadArgument
    ∷ wrong (codes "addParameter x at:put y 3") BadArgument
    ∷ wrong (codes "addParameter x x: Y: 3") BadArgument
    ∷ []

-- a line of `addParameter`, the text behind its words, the only statement of that text as a do-it, and what the line asks for
pub record ParameterRow : Type 0 where
  pub line : Text
  pub passed : Text
  pub node : SpannedTree
  pub says : Result Request Cause

-- each row is as the definition has it, where the text has that statement
abbrev pub AllPassed : List ParameterRow → Type 0
AllPassed [] = Unit {0}
AllPassed (r ∷ rs) =
    ((tree : SpannedSequence) (comments : Notes) (from : ℕ) → SpellsDoItAt Second r.passed tree → tree.statements ≡ MoreStatements comments from r.node NoStatements → LineSays r.line (command_answer r.says)) × AllPassed rs

abbrev pub passes : Text → SpannedTree → LiteralOf Text → ParameterRow
passes text node l =
    record { line = codes "addParameter x  x: y" ++ text; passed = text; node = node; says = Ok (single (AddParameter x (codes "x:") y l)) }

abbrev pub passes_not : Text → SpannedTree → ParameterRow
passes_not text node = record { line = codes "addParameter x  x: y" ++ text; passed = text; node = node; says = Err BadArgument }

-- Texts that are a literal, with blanks beside it; a blank behind a dollar sign is a character. Then texts that have more in them: a period, parentheses, a comment, bars, or a message; and a name that is no literal.
abbrev pub parameters : List ParameterRow
parameters =
    passes (codes "  -7 ") (Literal 2 4 (number (codes "-7"))) (number (codes "-7"))
    ∷ passes (codes " $  ") (Literal 1 3 (char 32)) (char 32)
    ∷ passes (codes " #(1 nil)") (Literal 1 9 (array (more_literals (number (codes "1")) (more_literals (word (codes "nil")) no_literals))))
    (array (more_literals (number (codes "1")) (more_literals (word (codes "nil")) no_literals)))
    ∷ passes (codes " nil") (Var 1 4 (codes "nil")) (word (codes "nil"))
    ∷ passes_not (codes " 7.") (Literal 1 2 (number (codes "7")))
    ∷ passes_not (codes " (7)") (Literal 2 3 (number (codes "7")))
    ∷ passes_not (codes " \"a\" 7") (Literal 5 6 (number (codes "7")))
    ∷ passes_not (codes " | | 7") (Literal 5 6 (number (codes "7")))
    ∷ passes_not (codes " 7 x") (Send 1 4 (Literal 1 2 (number (codes "7"))) x NoTrees)
    ∷ passes_not (codes " self") (Var 1 5 (codes "self"))
    ∷ []

-- Lines of `applyRule` that are wrong: no certificate stands behind the word, or no arrow behind the certificate.
abbrev pub wrong_rules : List Text
wrong_rules = codes "applyRule" ∷ codes "applyRule +1@ x" ∷ []

abbrev pub AllWrongRules : List Text → Type 0
AllWrongRules [] = Unit {0}
AllWrongRules (l ∷ ls) = LineSays l (Err BadArgument) × AllWrongRules ls

-- a line that asks for the rule that the texts on both sides of the first arrow say; blanks beside the arrow are part of these texts
abbrev pub a_rule_line : Text
a_rule_line = codes " applyRule  +8@ `x ==> `x ==> "

abbrev pub IsRuleLine : Type 0
IsRuleLine =
    (rule : RuleOf Text) → SaysRule (codes " `x") (codes "`x ==> ") rule →
    LineSays a_rule_line (Ok (Perform (Applies (record { certificate = record { law = 8; forward = true; path = [] } ∷ []; rule = rule }))))

-- a script: lines that say nothing, one that ends with a carriage return, and a last one without a line feed
abbrev pub example : Text
example = codes "-- first" ++ 10 ∷ 13 ∷ 10 ∷ codes "undo" ++ 13 ∷ 10 ∷ 9 ∷ 32 ∷ 10 ∷ codes "redo"

abbrev pub IsExample : Type 0
IsExample = Says example (Undo ∷ Redo ∷ [])

-- a script that is refused, with the number of its first wrong line and the cause
pub record RefusedRow : Type 0 where
  pub text : Text
  pub number : ℕ
  pub cause : Cause

abbrev pub AllRefused : List RefusedRow → Type 0
AllRefused [] = Unit {0}
AllRefused (r ∷ rs) = IsRefused r.text r.number r.cause × AllRefused rs

abbrev pub refused : Text → ℕ → Cause → RefusedRow
refused text at cause = record { text = text; number = at; cause = cause }

-- of several wrong lines the first is told, whatever its cause
abbrev pub refused_scripts : List RefusedRow
refused_scripts =
    refused (codes "renameClass C 1" ++ 10 ∷ codes "rename C") 1 BadArgument
    ∷ refused (codes "rename C" ++ 10 ∷ codes "renameClass C 1") 1 UnknownCommand
    ∷ refused (codes "undo" ++ 10 ∷ codes "--" ++ 10 ∷ codes "rename C" ++ 10 ∷ codes "renameClass") 3 UnknownCommand
    ∷ []

-- why a line that asks for no rule is wrong behind so many commands
abbrev pub cause_behind : ℕ → Text → Option Cause
cause_behind count line = cause_of count (command_answer (said line))

-- behind 9,999 commands there is room for one; behind 10,000 a line that asks for something is one too many, and one that is wrong in another way is told so
abbrev pub HasLimit : Type 0
HasLimit =
    (cause_behind 9999 (codes "undo") ≡ None)
    × (cause_behind 10000 (codes "undo") ≡ Some TooMany)
    × (cause_behind 10000 (codes "undo x") ≡ Some BadArgument)
    × (cause_behind 10000 (codes "rename C") ≡ Some UnknownCommand)
