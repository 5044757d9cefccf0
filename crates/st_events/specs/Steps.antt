-- What a reader of events does with one token.
use Rattle.std.specs.Prelude.{ℕ, ◌+◌, Bool, true, false, ◌==◌, if◌then◌else◌, List, [], ◌∷◌, ◌++◌, Option, Some, None}
use Rattle.std.specs.Str.Parse.{digits_value}
use Rattle.tree_model.specs.Tree.{Notes}
use Rattle.grammar_model.specs.Terminal.{Text, Sign, Less, Bar, Group, BlockStart, BraceStart, ArrayStart, BytesStart, GroupEnd, BlockEnd, Terminal, Name, Keyword, Binary, Numeral, Constant, Opens, Closes, Assignment, Colon, Semicolon, Period, Caret, OperandMeta, AnyName, StatementMeta, MessageMeta}
use Rattle.grammar_model.specs.Input.{Lexeme, lex}
use Rattle.grammar_model.specs.Literals.{word_or_symbol}
use Rattle.parse_events.specs.declared.event.Declaration.{Declaration}
use Rattle.parse_events.specs.declared.event.Event.{Event}
use Rattle.parse_events.specs.declared.event.Event.TheVariants as event
use Rattle.parse_events.specs.Found.{literal_events}
use Rattle.st_events.specs.declared.part.Part.{Part}
use Rattle.st_events.specs.declared.part.Part.TheVariants as part
use Rattle.st_events.specs.declared.part.ExpressionPart.{ExpressionPart}
use Rattle.st_events.specs.declared.part.ExpressionPart.TheVariants as expression
use Rattle.st_events.specs.declared.part.MessagePart.{MessagePart}
use Rattle.st_events.specs.declared.part.MessagePart.TheVariants as message
use Rattle.st_events.specs.declared.part.LiteralPart.{LiteralPart}
use Rattle.st_events.specs.declared.part.LiteralPart.TheVariants as literal
use Rattle.st_events.specs.declared.part.BlockPart.{BlockPart}
use Rattle.st_events.specs.declared.part.BlockPart.TheVariants as block
use Rattle.st_events.specs.declared.part.Enclosure.{Enclosure}
use Rattle.st_events.specs.declared.part.Enclosure.TheVariants as enclosure
use Rattle.st_events.specs.declared.part.SequencePart.{SequencePart}
use Rattle.st_events.specs.declared.part.SequencePart.TheVariants as sequence
use Rattle.st_events.specs.declared.part.HeadPart.{HeadPart}
use Rattle.st_events.specs.declared.part.HeadPart.TheVariants as head
use Rattle.st_events.specs.declared.reader.Reader.{Reader}
use Rattle.st_events.specs.declared.part.Row.{Row}
use Rattle.st_events.specs.declared.part.Row.TheVariants as row
use Rattle.st_events.specs.declared.part.Target.{Target}
use Rattle.st_events.specs.declared.part.Target.TheVariants as target
use Rattle.st_events.specs.declared.part.Rest.{Rest}
use Rattle.st_events.specs.declared.part.Rest.TheVariants as rest
use Rattle.st_events.specs.declared.answers.Answer.{Answer}
use Rattle.st_events.specs.declared.answers.Answer.TheVariants.{Refuses, Passes, Takes}
use Rattle.st_events.specs.Classes.{is_super, is_end}
use Rattle.st_events.specs.Answers.{row_of, answer}

-- one more part before all others
abbrev pub pushed : Part → Reader → Reader
pushed p r = record r { stack = p ∷ r.stack }

-- one more event
abbrev pub emitted : Event → Reader → Reader
emitted e r = record r { events = r.events ++ e ∷ [] }

-- no comments are held
abbrev pub cleared : Reader → Reader
cleared r = record r { held = [] }

-- behind a token that ends at a place and has these comments before it
abbrev pub advanced : Notes → ℕ → Reader → Reader
advanced c e r = record r { held = r.held ++ c; last = e }

-- a statement from a place on is over; the comments that are held are its own
abbrev pub stated : ℕ → Reader → Reader
stated f r = cleared (emitted (event.Statement f r.held) r)

-- a send becomes a message of a cascade
abbrev pub message_of : Event → Event
message_of (event.Send f e n s) = event.Message s n
message_of x = x

-- the last event, a send, becomes the first message of a cascade
abbrev pub recast : List Event → List Event
recast [] = []
recast (x ∷ []) = message_of x ∷ []
recast (x ∷ y ∷ ys) = x ∷ recast (y ∷ ys)

-- a message to a receiver that begins at a place, or one of a cascade
abbrev pub message_event : Option ℕ → ℕ → Text → ℕ → Event
message_event (Some f) e s n = event.Send f e n s
message_event None e s n = event.Message s n

-- one more declaration
abbrev pub declared : List Declaration → Text → ℕ → List Declaration
declared ds n f = ds ++ record { name = n; from = f } ∷ []

-- behind the first token of a literal
abbrev pub begin_literal : Terminal → Reader → Reader
begin_literal (Binary Sign s) r = pushed (part.Literal (literal.Numeral s)) r
begin_literal (Numeral c t) r = emitted (event.Number t) r
begin_literal (Constant l) r = record r { events = r.events ++ literal_events l }
begin_literal (Opens ArrayStart) r = pushed (part.Literal (literal.Elements 0)) r
begin_literal (Opens BytesStart) r = pushed (part.Literal (literal.Bytes 0)) r
begin_literal k r = r

-- behind the first token of an operand that is no name and begins at a place
abbrev pub begin_operand : Terminal → ℕ → Reader → Reader
begin_operand (Opens Group) f r = pushed (part.Expression expression.Whole) (pushed (part.Sequence sequence.GroupEnd) r)
begin_operand (Opens BlockStart) f r = pushed (part.Block (block.Start (enclosure.Block f r.held))) (cleared r)
begin_operand (Opens BraceStart) f r = pushed (part.Sequence (sequence.Items f 0 false)) r
begin_operand k f r = begin_literal k (pushed (part.Literal (literal.BehindOperand f)) r)

-- behind the first token of an expression, from one place up to another
abbrev pub begin_expression : Terminal → ℕ → ℕ → Reader → Reader
begin_expression (Name c n) f e r = pushed (part.Expression (expression.BehindName f e n (is_super (Name c n)))) r
begin_expression (OperandMeta m n) f e r = emitted (event.Var f e n) (pushed (part.Message (message.All f row.Unary false)) r)
begin_expression k f e r = begin_operand k f (pushed (part.Message (message.All f row.Unary false)) r)

-- behind the first token of an argument, with the part for its messages
abbrev pub begin_argument : Part → Terminal → ℕ → ℕ → Reader → Reader
begin_argument p (Name c n) f e r = pushed p (emitted (event.Var f e n) r)
begin_argument p (OperandMeta m n) f e r = pushed p (emitted (event.Var f e n) r)
begin_argument p k f e r = begin_operand k f (pushed p r)

-- whether a cascade can go on from a message behind these ones
abbrev pub is_told_behind : Row → Bool
is_told_behind row.Super = false
is_told_behind w = true

-- behind the first token of a message to a receiver from a place on, or of a cascade
abbrev pub message_taken : ℕ → Row → Terminal → ℕ → Reader → Reader
message_taken f w (Name c n) e r = pushed (part.Message (message.All f row.Unary (is_told_behind w))) (emitted (event.Send f e 0 n) r)
message_taken f w (OperandMeta AnyName n) e r = pushed (part.Message (message.All f row.Unary (is_told_behind w))) (emitted (event.Send f e 0 n) r)
message_taken f w (Binary c s) e r = pushed (part.Expression expression.BinaryArgument) (pushed (part.Message (message.BehindArgument (Some f) s)) (pushed (part.Message (message.All f row.Binary (is_told_behind w))) r))
message_taken f w (Keyword c s) e r = pushed (part.Expression expression.KeywordArgument) (pushed (part.Message (message.BehindKeyword (target.Receiver f (is_told_behind w)) 1 s)) r)
message_taken f w (MessageMeta s) e r = pushed (part.Expression expression.AnyArgument) (pushed (part.Message (message.BehindArgument (Some f) s)) (pushed (part.Message (message.BehindAny f (is_told_behind w))) r))
message_taken f w Semicolon e r = pushed (part.Message (message.InCascade f 2)) (record r { events = recast r.events })
message_taken f w k e r = r

-- behind the first token of a unary or binary message of an argument, with the parts behind either
abbrev pub operator_taken : Part → Part → ℕ → Terminal → ℕ → Reader → Reader
operator_taken p q f (Name c n) e r = pushed p (emitted (event.Send f e 0 n) r)
operator_taken p q f (OperandMeta AnyName n) e r = pushed p (emitted (event.Send f e 0 n) r)
operator_taken p q f (Binary c s) e r = pushed (part.Expression expression.BinaryArgument) (pushed (part.Message (message.BehindArgument (Some f) s)) (pushed q r))
operator_taken p q f k e r = r

-- behind the first token of a message of a cascade from a place on, the last of so many
abbrev pub cascade_taken : ℕ → ℕ → Terminal → Reader → Reader
cascade_taken f m (Name c n) r = pushed (part.Message (message.BehindCascade f m false)) (emitted (event.Message n 0) r)
cascade_taken f m (OperandMeta AnyName n) r = pushed (part.Message (message.BehindCascade f m false)) (emitted (event.Message n 0) r)
cascade_taken f m (Binary c s) r = pushed (part.Expression expression.BinaryArgument) (pushed (part.Message (message.BehindArgument None s)) (pushed (part.Message (message.BehindCascade f m false)) r))
cascade_taken f m (Keyword c s) r = pushed (part.Expression expression.KeywordArgument) (pushed (part.Message (message.BehindKeyword (target.Cascade f m) 1 s)) r)
cascade_taken f m (MessageMeta s) r = pushed (part.Expression expression.AnyArgument) (pushed (part.Message (message.BehindArgument None s)) (pushed (part.Message (message.BehindCascade f m true)) r))
cascade_taken f m k r = r

-- the next message of a cascade that the message to a target begins, or in which it stands
abbrev pub next_in_cascade : Target → Part
next_in_cascade (target.Receiver f told) = part.Message (message.InCascade f 2)
next_in_cascade (target.Cascade f m) = part.Message (message.InCascade f (m + 1))

-- behind a token that a part of messages takes
abbrev pub messages_taken : MessagePart → Terminal → ℕ → Reader → Reader
messages_taken (message.All f w told) k e r = message_taken f w k e r
messages_taken (message.OfKeyword f w) k e r = operator_taken (part.Message (message.OfKeyword f row.Unary)) (part.Message (message.OfKeyword f row.Binary)) f k e r
messages_taken (message.OfBinary f of_super) k e r = operator_taken (part.Message (message.OfBinary f false)) (part.Message (message.OfBinary f false)) f k e r
messages_taken (message.BehindKeyword t n s) (Keyword c k) e r = pushed (part.Expression expression.KeywordArgument) (pushed (part.Message (message.BehindKeyword t (n + 1) (s ++ k))) r)
messages_taken (message.BehindKeyword t n s) k e r = pushed (next_in_cascade t) (emitted (event.Message s n) r)
messages_taken (message.BehindAny f told) k e r = message_taken f row.Unary k e r
messages_taken (message.InCascade f m) k e r = cascade_taken f m k r
messages_taken (message.BehindCascade f m any) k e r = pushed (part.Message (message.InCascade f (m + 1))) r
messages_taken p k e r = r

-- behind a token that a part of an expression takes
abbrev pub expression_taken : ExpressionPart → Terminal → ℕ → ℕ → Reader → Reader
expression_taken expression.Whole k f e r = begin_expression k f e r
expression_taken expression.BinaryArgument k f e r = begin_argument (part.Message (message.OfBinary f (is_super k))) k f e r
expression_taken expression.KeywordArgument k f e r = begin_argument (part.Message (message.OfKeyword f (row_of (is_super k)))) k f e r
expression_taken (expression.BehindName g h n of_super) Assignment f e r = pushed (part.Expression expression.Whole) (pushed (part.Expression (expression.BehindValue g)) (emitted (event.Target g n) r))
expression_taken (expression.BehindName g h n of_super) k f e r = message_taken g (row_of of_super) k e (emitted (event.Var g h n) r)
expression_taken (expression.BehindValue g) k f e r = r
expression_taken expression.AnyArgument (OperandMeta m n) f e r = emitted (event.Var f e n) r
expression_taken expression.AnyArgument k f e r = r

-- behind an element of an array that is no keyword, or its first token
abbrev pub begin_element : Terminal → Reader → Reader
begin_element (Name c s) r = record r { events = r.events ++ literal_events (word_or_symbol s) }
begin_element (Binary Sign s) r = begin_literal (Binary Sign s) r
begin_element (Binary c s) r = emitted (event.Symbol s) r
begin_element (Opens Group) r = pushed (part.Literal (literal.Elements 0)) r
begin_element (Opens BlockStart) r = pushed (part.Literal (literal.Bytes 0)) r
begin_element k r = begin_literal k r

-- behind an element of an array that ends at a place, or its first token, if so many came before it, or behind the mark that closes the array
abbrev pub element_taken : ℕ → Terminal → ℕ → Reader → Reader
element_taken n (Closes GroupEnd) e r = emitted (event.Array n) r
element_taken n (Keyword c s) e r = pushed (part.Literal (literal.BehindKeyword s e (n + 1))) r
element_taken n k e r = begin_element k (pushed (part.Literal (literal.Elements (n + 1))) r)

-- behind a token of an array behind keywords that end at a place, the last of so many elements; a keyword that begins there is joined to them
abbrev pub joined_taken : Text → ℕ → ℕ → Terminal → ℕ → ℕ → Reader → Reader
joined_taken s to n (Keyword c k) f e r = if f == to then pushed (part.Literal (literal.BehindKeyword (s ++ k) e n)) r else element_taken n (Keyword c k) e (emitted (event.Symbol s) r)
joined_taken s to n k f e r = element_taken n k e (emitted (event.Symbol s) r)

-- behind a token from one place up to another that a part of a literal takes
abbrev pub literal_taken : LiteralPart → Terminal → ℕ → ℕ → Reader → Reader
literal_taken (literal.Numeral s) (Numeral c t) f e r = emitted (event.Number (s ++ t)) r
literal_taken (literal.Elements n) k f e r = element_taken n k e r
literal_taken (literal.BehindKeyword s to n) k f e r = joined_taken s to n k f e r
literal_taken (literal.Bytes n) (Numeral c t) f e r = pushed (part.Literal (literal.Bytes (n + 1))) (emitted (event.Number t) r)
literal_taken (literal.Bytes n) (Closes BlockEnd) f e r = emitted (event.Bytes n) r
literal_taken p k f e r = r

-- behind the last statement, so many of them, and the mark that closes them and ends at a place
abbrev pub closed : Enclosure → ℕ → ℕ → Reader → Reader
closed enclosure.Text n e r = record (cleared r) { head = record r.head { tail = r.held } }
closed (enclosure.Block f outer) n e r = record (emitted (event.Block f e n r.held) r) { held = outer }

-- what may come behind a statement, which is a return or not
abbrev pub rest_behind : Bool → Rest
rest_behind true = rest.Periods
rest_behind false = rest.Any

-- a statement begins at a place behind so many others, and is a return or not
abbrev pub begun : Enclosure → ℕ → ℕ → Bool → Reader → Reader
begun w n f returned r = pushed (part.Sequence (sequence.BehindStatement f w (n + 1) returned)) r

-- behind a period or the first token of a statement, or behind the last statement
abbrev pub statement_taken : Enclosure → ℕ → Rest → Terminal → ℕ → ℕ → Reader → Reader
statement_taken w n more Period f e r = pushed (part.Sequence (sequence.Statements w n more)) r
statement_taken w n more (Closes c) f e r = closed w n e r
statement_taken w n more Caret f e r = pushed (part.Expression expression.Whole) (pushed (part.Sequence (sequence.BehindReturn f)) (begun w n f true r))
statement_taken w n more (StatementMeta m) f e r = emitted (event.Var f e m) (begun w n f false r)
statement_taken w n more k f e r = begin_expression k f e (begun w n f false r)

-- behind a bar or the first token of a block's statements, with its parameters
abbrev pub block_body_taken : Enclosure → List Declaration → Terminal → ℕ → ℕ → Reader → Reader
block_body_taken w ps (Binary Bar s) f e r = pushed (part.Block (block.Names w ps [])) r
block_body_taken w ps k f e r = statement_taken w 0 rest.Any k f e (emitted (event.Enter ps []) r)

-- behind a token that a part of a block's head takes
abbrev pub block_taken : BlockPart → Terminal → ℕ → ℕ → Reader → Reader
block_taken (block.Start w) Colon f e r = pushed (part.Block (block.Parameter w [])) r
block_taken (block.Start w) k f e r = block_body_taken w [] k f e r
block_taken (block.Parameter w ps) (Name c n) f e r = pushed (part.Block (block.BehindParameter w (declared ps n f))) r
block_taken (block.BehindParameter w ps) Colon f e r = pushed (part.Block (block.Parameter w ps)) r
block_taken (block.BehindParameter w ps) (Binary c s) f e r = pushed (part.Block (block.Temporaries w ps)) r
block_taken (block.BehindParameter w ps) k f e r = block_body_taken w ps k f e r
block_taken (block.Temporaries w ps) k f e r = block_body_taken w ps k f e r
block_taken (block.Names w ps ds) (Name c n) f e r = pushed (part.Block (block.Names w ps (declared ds n f))) r
block_taken (block.Names w ps ds) (Binary c s) f e r = pushed (part.Sequence (sequence.Statements w 0 rest.Any)) (emitted (event.Enter ps ds) r)
block_taken p k f e r = r

-- behind a period or the first token of an expression of a brace array, or behind the last one
abbrev pub item_taken : ℕ → ℕ → Terminal → ℕ → ℕ → Reader → Reader
item_taken g n Period f e r = pushed (part.Sequence (sequence.Items g n false)) r
item_taken g n (Closes c) f e r = emitted (event.Brace g e n) r
item_taken g n k f e r = begin_expression k f e (pushed (part.Sequence (sequence.Items g (n + 1) true)) r)

-- behind a token that a part of a sequence takes
abbrev pub sequence_taken : SequencePart → Terminal → ℕ → ℕ → Reader → Reader
sequence_taken (sequence.Statements w n more) k f e r = statement_taken w n more k f e r
sequence_taken (sequence.BehindStatement g w n returned) Period f e r = statement_taken w n (rest_behind returned) Period f e (stated g r)
sequence_taken (sequence.BehindStatement g w n returned) k f e r = statement_taken w n (rest_behind returned) k f e r
sequence_taken (sequence.Items g n further) k f e r = item_taken g n k f e r
sequence_taken sequence.Pattern k f e r = begin_expression k f e (pushed (part.Sequence (sequence.BehindPattern f)) r)
sequence_taken (sequence.BehindPattern g) k f e r = emitted (event.Statement g []) r
sequence_taken p k f e r = r

-- behind the first token of a method's body
abbrev pub body_taken : Terminal → ℕ → ℕ → Reader → Reader
body_taken (Binary Bar s) f e r = pushed (part.Head head.Names) (record (cleared r) { head = record r.head { opening = r.held } })
body_taken (Binary Less s) f e r = pushed (part.Head head.Primitive) r
body_taken k f e r = statement_taken enclosure.Text 0 rest.Any k f e r

-- behind an argument, with the part that comes behind it
abbrev pub argument_taken : HeadPart → Terminal → ℕ → Reader → Reader
argument_taken p (Name c n) f r = pushed (part.Head p) (record r { head = record r.head { arguments = declared r.head.arguments n f } })
argument_taken p k f r = r

-- behind a token that a part of a text's head takes
abbrev pub head_taken : HeadPart → Terminal → ℕ → ℕ → Reader → Reader
head_taken (head.Pattern kernel) (Name c n) f e r = pushed (part.Head (head.MethodTemporaries kernel)) (record r { head = record r.head { selector = n } })
head_taken (head.Pattern kernel) (Binary c s) f e r = pushed (part.Head (head.Argument kernel)) (record r { head = record r.head { selector = s } })
head_taken (head.Pattern kernel) (Keyword c k) f e r = pushed (part.Head (head.KeywordArgument kernel)) (record r { head = record r.head { selector = k } })
head_taken (head.Argument kernel) k f e r = argument_taken (head.MethodTemporaries kernel) k f r
head_taken (head.KeywordArgument kernel) k f e r = argument_taken (head.BehindArgument kernel) k f r
head_taken (head.BehindArgument kernel) (Keyword c k) f e r = pushed (part.Head (head.KeywordArgument kernel)) (record r { head = record r.head { selector = r.head.selector ++ k } })
head_taken (head.BehindArgument kernel) k f e r = body_taken k f e r
head_taken (head.MethodTemporaries kernel) k f e r = body_taken k f e r
head_taken head.DoitTemporaries (Binary Bar s) f e r = pushed (part.Head head.Names) r
head_taken head.DoitTemporaries k f e r = statement_taken enclosure.Text 0 rest.Any k f e r
head_taken head.Names (Name c n) f e r = pushed (part.Head head.Names) (record r { head = record r.head { temporaries = declared r.head.temporaries n f } })
head_taken head.Names k f e r = pushed (part.Sequence (sequence.Statements enclosure.Text 0 rest.Any)) r
head_taken head.Primitive k f e r = pushed (part.Head head.PrimitiveNumber) r
head_taken head.PrimitiveNumber (Numeral c t) f e r = pushed (part.Head head.PrimitiveEnd) (record r { head = record r.head { primitive = Some (digits_value 10 t) } })
head_taken head.PrimitiveEnd k f e r = pushed (part.Sequence (sequence.Statements enclosure.Text 0 rest.Nothing)) r
head_taken p k f e r = r

-- behind a token from one place up to another that a part takes
abbrev pub taken : Part → Terminal → ℕ → ℕ → Reader → Reader
taken (part.Expression p) k f e r = expression_taken p k f e r
taken (part.Message p) k f e r = messages_taken p k e r
taken (part.Literal p) k f e r = literal_taken p k f e r
taken (part.Block p) k f e r = block_taken p k f e r
taken (part.Sequence p) k f e r = sequence_taken p k f e r
taken (part.Head p) k f e r = head_taken p k f e r

-- what is found before the comments that stand before a token that a part takes: a statement is over where its block or text is
abbrev pub settled : Part → Terminal → Reader → Reader
settled (part.Sequence (sequence.BehindStatement g w n returned)) (Closes c) r = stated g r
settled p k r = r

-- the message to a target is over, and with it the cascade in which it stands
abbrev pub message_over : Target → Text → ℕ → Reader → Reader
message_over (target.Receiver f told) s n r = emitted (event.Send f r.last n s) r
message_over (target.Cascade f m) s n r = emitted (event.Cascade f r.last m) (emitted (event.Message s n) r)

-- what is found where a part is over
abbrev pub passed : Part → Reader → Reader
passed (part.Expression (expression.BehindName f e n of_super)) r = emitted (event.Var f e n) r
passed (part.Expression (expression.BehindValue f)) r = emitted (event.Assign f r.last) r
passed (part.Message (message.BehindArgument g s)) r = emitted (message_event g r.last s 1) r
passed (part.Message (message.BehindKeyword t n s)) r = message_over t s n r
passed (part.Message (message.BehindCascade f m any)) r = emitted (event.Cascade f r.last m) r
passed (part.Literal (literal.BehindOperand f)) r = emitted (event.Literal f r.last) r
passed (part.Sequence (sequence.BehindReturn f)) r = emitted (event.Return f r.last) r
passed p r = r

-- the same reader with these parts to come
abbrev pub awaiting : List Part → Reader → Reader
awaiting ps r = record r { stack = ps }

-- a reader in which nothing was found
abbrev pub blank : Reader
blank = record {
  stack = [];
  events = [];
  held = [];
  last = 0;
  head = record { selector = []; arguments = []; opening = []; primitive = None; temporaries = []; tail = [] };
}

-- a reader behind a token that a part takes, or at which it is over, by the part's answer; nothing stands behind a token that is refused
abbrev pub decided : Answer → Reader → Reader → Reader
decided Takes r s = r
decided Passes r s = s
decided Refuses r s = blank

-- behind one token, if these parts were to come
abbrev pub step : List Part → Reader → Lexeme → Reader
step [] r (lex c f e k) = blank
step (p ∷ ps) r (lex c f e k) = decided (answer p k) (taken p k f e (advanced c e (settled p k (awaiting ps r)))) (step ps (passed p (awaiting ps r)) (lex c f e k))

-- behind all tokens up to the end of the text
abbrev pub run : Reader → List Lexeme → Reader
run r [] = blank
run r (lex c f e k ∷ ts) = if is_end k then step r.stack r (lex c f e k) else run (step r.stack r (lex c f e k)) ts
