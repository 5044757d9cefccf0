-- What a part does with a token.
use Rattle.std.specs.Prelude.{Bool, true, false, ◌||◌}
use Rattle.grammar_model.specs.Terminal.{Bar, Less, Greater, PrimitiveKeyword, SmallDigits, LargeDigits, AnyExpression, GroupEnd, BlockEnd, BraceEnd, TextEnd, Closing, Terminal, Name, Keyword, Binary, Numeral, Closes, Assignment, Colon, Semicolon, Period, OperandMeta, MessageMeta}
use Rattle.st_events.specs.declared.answers.Answer.{Answer}
use Rattle.st_events.specs.declared.answers.Answer.TheVariants.{Refuses, Passes, Takes}
use Rattle.st_events.specs.declared.part.Part.{Part}
use Rattle.st_events.specs.declared.part.Part.TheVariants as part
use Rattle.st_events.specs.declared.part.ExpressionPart.TheVariants as expression
use Rattle.st_events.specs.declared.part.Row.{Row}
use Rattle.st_events.specs.declared.part.Row.TheVariants as row
use Rattle.st_events.specs.declared.part.Target.{Target}
use Rattle.st_events.specs.declared.part.Target.TheVariants as target
use Rattle.st_events.specs.declared.part.MessagePart.TheVariants as message
use Rattle.st_events.specs.declared.part.LiteralPart.TheVariants as literal
use Rattle.st_events.specs.declared.part.BlockPart.TheVariants as block
use Rattle.st_events.specs.declared.part.Enclosure.{Enclosure}
use Rattle.st_events.specs.declared.part.Enclosure.TheVariants as enclosure
use Rattle.st_events.specs.declared.part.Rest.{Rest}
use Rattle.st_events.specs.declared.part.Rest.TheVariants as rest
use Rattle.st_events.specs.declared.part.SequencePart.TheVariants as sequence
use Rattle.st_events.specs.declared.part.HeadPart.TheVariants as head
use Rattle.st_events.specs.Classes.{is_name, is_plain_name, is_binary, is_semicolon, is_period, is_bar, is_message, is_element, begins_operand, begins_statement}

-- some tokens are taken, and there is one answer to all others
abbrev pub taken_if : Bool → Answer → Answer
taken_if true other = Takes
taken_if false other = other

-- the messages that may come to the first name of an expression, which is super or not
abbrev pub row_of : Bool → Row
row_of true = row.Super
row_of false = row.Unary

-- the messages of an expression; a cascade can go on from the last one or not
abbrev pub messages_answer : Row → Bool → Terminal → Answer
messages_answer row.Super told k = taken_if (is_message k) Refuses
messages_answer row.Unary told Semicolon = taken_if told Refuses
messages_answer row.Unary told k = taken_if (is_message k) Passes
messages_answer row.Binary told Semicolon = taken_if told Refuses
messages_answer row.Binary told (Name c n) = Passes
messages_answer row.Binary told (OperandMeta m n) = Passes
messages_answer row.Binary told k = taken_if (is_message k) Passes

-- the messages of a keyword's argument
abbrev pub operators_answer : Row → Terminal → Answer
operators_answer row.Super k = taken_if (is_name k || is_binary k) Refuses
operators_answer row.Unary k = taken_if (is_name k || is_binary k) Passes
operators_answer row.Binary k = taken_if (is_binary k) Passes

-- behind a whole message of a pattern; a cascade can go on from it or not
abbrev pub any_answer : Bool → Terminal → Answer
any_answer told (Keyword c n) = Refuses
any_answer told (MessageMeta n) = Refuses
any_answer told Semicolon = taken_if told Refuses
any_answer told k = Passes

-- the keywords of a message; a cascade can go on from it or not
abbrev pub keyword_answer : Bool → Terminal → Answer
keyword_answer told (Keyword c n) = Takes
keyword_answer told (MessageMeta n) = Refuses
keyword_answer told Semicolon = taken_if told Refuses
keyword_answer told k = Passes

-- whether a cascade can go on from a message to a target
abbrev pub is_told : Target → Bool
is_told (target.Receiver f told) = told
is_told (target.Cascade f n) = true

-- the mark that closes statements
abbrev pub closes : Closing → Enclosure → Bool
closes BlockEnd (enclosure.Block f outer) = true
closes TextEnd enclosure.Text = true
closes c w = false

-- statements
abbrev pub statements_answer : Terminal → Rest → Enclosure → Answer
statements_answer (Closes c) more w = taken_if (closes c w) Refuses
statements_answer k rest.Any w = taken_if (begins_statement k) Refuses
statements_answer k rest.Periods w = taken_if (is_period k) Refuses
statements_answer k rest.Nothing w = Refuses

-- the body of a method, of the kernel or not, or of a do-it
abbrev pub body_answer : Bool → Terminal → Answer
body_answer kernel (Binary Bar s) = Takes
body_answer kernel (Binary Less s) = taken_if kernel Refuses
body_answer kernel k = statements_answer k rest.Any enclosure.Text

-- any part
abbrev pub answer : Part → Terminal → Answer
answer (part.Expression (expression.BehindName f e n of_super)) Assignment = Takes
answer (part.Expression (expression.BehindName f e n of_super)) k = messages_answer (row_of of_super) false k
answer (part.Expression (expression.BehindValue f)) k = Passes
answer (part.Expression expression.AnyArgument) (OperandMeta AnyExpression n) = Takes
answer (part.Expression expression.AnyArgument) k = Refuses
answer (part.Expression p) k = taken_if (begins_operand k) Refuses
answer (part.Message (message.All f w told)) k = messages_answer w told k
answer (part.Message (message.OfKeyword f w)) k = operators_answer w k
answer (part.Message (message.OfBinary f true)) k = taken_if (is_name k) Refuses
answer (part.Message (message.OfBinary f false)) k = taken_if (is_name k) Passes
answer (part.Message (message.BehindArgument g s)) k = Passes
answer (part.Message (message.BehindKeyword t n s)) k = keyword_answer (is_told t) k
answer (part.Message (message.BehindAny f told)) k = any_answer told k
answer (part.Message (message.InCascade f n)) k = taken_if (is_message k) Refuses
answer (part.Message (message.BehindCascade f n true)) k = any_answer true k
answer (part.Message (message.BehindCascade f n false)) k = taken_if (is_semicolon k) Passes
answer (part.Literal (literal.Numeral s)) (Numeral c t) = Takes
answer (part.Literal (literal.Numeral s)) k = Refuses
answer (part.Literal (literal.Bytes n)) (Numeral SmallDigits t) = Takes
answer (part.Literal (literal.Bytes n)) (Numeral LargeDigits t) = Takes
answer (part.Literal (literal.Bytes n)) (Closes BlockEnd) = Takes
answer (part.Literal (literal.Bytes n)) k = Refuses
answer (part.Literal (literal.BehindOperand f)) k = Passes
answer (part.Literal p) k = taken_if (is_element k) Refuses
answer (part.Block (block.Start w)) Colon = Takes
answer (part.Block (block.Start w)) (Binary Bar s) = Takes
answer (part.Block (block.Start w)) k = statements_answer k rest.Any w
answer (part.Block (block.Parameter w ps)) k = taken_if (is_plain_name k) Refuses
answer (part.Block (block.BehindParameter w ps)) Colon = Takes
answer (part.Block (block.BehindParameter w ps)) (Binary Bar s) = Takes
answer (part.Block (block.BehindParameter w ps)) k = statements_answer k rest.Nothing w
answer (part.Block (block.Temporaries w ps)) (Binary Bar s) = Takes
answer (part.Block (block.Temporaries w ps)) k = statements_answer k rest.Any w
answer (part.Block (block.Names w ps ds)) k = taken_if (is_plain_name k || is_bar k) Refuses
answer (part.Sequence (sequence.Statements w n more)) k = statements_answer k more w
answer (part.Sequence (sequence.BehindStatement f w n returned)) k = statements_answer k rest.Periods w
answer (part.Sequence (sequence.BehindReturn f)) k = Passes
answer (part.Sequence (sequence.Items f n further)) (Closes BraceEnd) = Takes
answer (part.Sequence (sequence.Items f n further)) Period = taken_if further Refuses
answer (part.Sequence (sequence.Items f n true)) k = Refuses
answer (part.Sequence (sequence.Items f n false)) k = taken_if (begins_operand k) Refuses
answer (part.Sequence sequence.GroupEnd) (Closes GroupEnd) = Takes
answer (part.Sequence sequence.GroupEnd) k = Refuses
answer (part.Sequence sequence.Pattern) k = taken_if (begins_operand k) Refuses
answer (part.Sequence (sequence.BehindPattern f)) (Closes TextEnd) = Takes
answer (part.Sequence (sequence.BehindPattern f)) k = Refuses
answer (part.Head (head.Pattern kernel)) (Keyword c n) = Takes
answer (part.Head (head.Pattern kernel)) k = taken_if (is_plain_name k || is_binary k) Refuses
answer (part.Head (head.Argument kernel)) k = taken_if (is_plain_name k) Refuses
answer (part.Head (head.KeywordArgument kernel)) k = taken_if (is_plain_name k) Refuses
answer (part.Head (head.BehindArgument kernel)) (Keyword c n) = Takes
answer (part.Head (head.BehindArgument kernel)) k = body_answer kernel k
answer (part.Head (head.MethodTemporaries kernel)) k = body_answer kernel k
answer (part.Head head.DoitTemporaries) k = body_answer false k
answer (part.Head head.Names) k = taken_if (is_plain_name k || is_bar k) Refuses
answer (part.Head head.Primitive) (Keyword PrimitiveKeyword n) = Takes
answer (part.Head head.Primitive) k = Refuses
answer (part.Head head.PrimitiveNumber) (Numeral SmallDigits t) = Takes
answer (part.Head head.PrimitiveNumber) k = Refuses
answer (part.Head head.PrimitiveEnd) (Binary Greater s) = Takes
answer (part.Head head.PrimitiveEnd) k = Refuses
