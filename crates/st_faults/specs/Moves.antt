-- What the machine of the grammar does with one token, as the program has it.
use Rattle.std.specs.Prelude.{◌≡◌, Bool, ◌∷◌, Option, Some, None}
use Rattle.tree_model.specs.Tree.{LiteralOf}
use Rattle.grammar_model.specs.Terminal.{Text, Terminal}
use Rattle.grammar_model.specs.Terminal as grammar
use Rattle.grammar_model.specs.Machine as machine
use Rattle.grammar_model.specs.Machine.{Stack, step}
use Rattle.st_faults.specs.declared.sort.Sort.{Sort}
use Rattle.st_faults.specs.declared.part.Part.{Part}
use Rattle.st_faults.specs.declared.part.Part.TheVariants.{Expression, Message, Literal, Sequence, Method, Awaits}
use Rattle.st_faults.specs.declared.part.ExpressionPart.{ExpressionPart}
use Rattle.st_faults.specs.declared.part.ExpressionPart.TheVariants as expression
use Rattle.st_faults.specs.declared.part.MessagePart.{MessagePart}
use Rattle.st_faults.specs.declared.part.MessagePart.TheVariants as message
use Rattle.st_faults.specs.declared.part.LiteralPart.{LiteralPart}
use Rattle.st_faults.specs.declared.part.LiteralPart.TheVariants as literal
use Rattle.st_faults.specs.declared.part.SequencePart.{SequencePart}
use Rattle.st_faults.specs.declared.part.SequencePart.TheVariants as sequence
use Rattle.st_faults.specs.declared.part.MethodPart.{MethodPart}
use Rattle.st_faults.specs.declared.part.MethodPart.TheVariants as method
use Rattle.st_faults.specs.declared.part.ClosingPart.{ClosingPart}
use Rattle.st_faults.specs.declared.part.ClosingPart.TheVariants as closing
use Rattle.st_faults.specs.declared.moves.Move.{Move}
use Rattle.st_faults.specs.declared.moves.Move.TheVariants.{Refuses, Passes, Reads}
use Rattle.st_faults.specs.declared.moves.Parts.{Parts}
use Rattle.st_faults.specs.Sorts.{terminal}

-- the machine's part of an operand
abbrev pub expression_part : ExpressionPart → machine.Part
expression_part expression.Whole = machine.TheExpression
expression_part expression.BinaryArgument = machine.TheArgument
expression_part expression.KeywordArgument = machine.TheKeywordArgument
expression_part expression.BehindName = machine.BehindName
expression_part expression.BehindSuper = machine.BehindFirstSuper
expression_part expression.BehindSuperOfBinary = machine.BehindSuperOfBinary
expression_part expression.BehindSuperOfKeyword = machine.BehindSuperOfKeyword

-- the machine's part of messages
abbrev pub message_part : MessagePart → machine.Part
message_part message.UnaryOfBinary = machine.UnaryOfBinary
message_part message.UnaryOfKeyword = machine.UnaryOfKeyword
message_part message.BinaryOfKeyword = machine.BinaryOfKeyword
message_part (message.Unary told) = machine.UnaryMessages told
message_part (message.Binary told) = machine.BinaryMessages told
message_part (message.Keyword told) = machine.KeywordMessages told
message_part message.AnyArgument = machine.AnyArgument
message_part (message.BehindAny told) = machine.BehindAnyMessage told
message_part message.InCascade = machine.TheMessage
message_part message.BehindInCascade = machine.TheCascade

-- the machine's part of a literal
abbrev pub literal_part : LiteralPart → machine.Part
literal_part literal.Numeral = machine.TheNumeral
literal_part literal.Elements = machine.TheElements
literal_part literal.Bytes = machine.TheBytes

-- the machine's part of a sequence
abbrev pub sequence_part : SequencePart → machine.Part
sequence_part sequence.Items = machine.TheItems
sequence_part sequence.FurtherItem = machine.FurtherItem
sequence_part sequence.Block = machine.TheBlock
sequence_part sequence.Parameter = machine.TheParameter
sequence_part sequence.Parameters = machine.TheParameters
sequence_part sequence.Whole = machine.TheSequence
sequence_part sequence.Names = machine.TheNames
sequence_part sequence.Statements = machine.TheStatements
sequence_part sequence.BehindStatement = machine.BehindStatement
sequence_part sequence.BehindReturn = machine.BehindReturn

-- the machine's part of a method
abbrev pub method_part : MethodPart → machine.Part
method_part (method.Pattern kernel) = machine.ThePattern kernel
method_part (method.BinaryName kernel) = machine.BinaryName kernel
method_part (method.KeywordName kernel) = machine.KeywordName kernel
method_part (method.PatternRest kernel) = machine.PatternRest kernel
method_part method.KernelBody = machine.KernelBody
method_part method.Primitive = machine.ThePrimitive
method_part method.PrimitiveNumber = machine.PrimitiveNumber
method_part method.PrimitiveEnd = machine.PrimitiveEnd

-- the machine's part of a closing mark
abbrev pub closing_part : ClosingPart → machine.Part
closing_part closing.Group = machine.Awaits grammar.GroupEnd
closing_part closing.Block = machine.Awaits grammar.BlockEnd
closing_part closing.Brace = machine.Awaits grammar.BraceEnd
closing_part closing.Text = machine.Awaits grammar.TextEnd

-- the machine's part
abbrev pub part_of : Part → machine.Part
part_of (Expression p) = expression_part p
part_of (Message p) = message_part p
part_of (Literal p) = literal_part p
part_of (Sequence p) = sequence_part p
part_of (Method p) = method_part p
part_of (Awaits p) = closing_part p

-- one more part, if any, in front
abbrev pub put : Option Part → Stack → Stack
put None ss = ss
put (Some p) ss = part_of p ∷ ss

-- the parts in front
abbrev pub put_all : Parts → Stack → Stack
put_all ps ss = put ps.first (put ps.second (put ps.third (put ps.fourth ss)))

-- behind the first token of a message, where a cascade can go on from the message or not; the last argument stands where no message begins
abbrev pub begin_message : Bool → Terminal → Stack → Option Stack → Option Stack
begin_message told (grammar.Name c n) ss other = Some (machine.UnaryMessages told ∷ ss)
begin_message told (grammar.OperandMeta grammar.AnyName n) ss other = Some (machine.UnaryMessages told ∷ ss)
begin_message told (grammar.Binary c s) ss other = Some (machine.TheArgument ∷ machine.BinaryMessages told ∷ ss)
begin_message told (grammar.Keyword c s) ss other = Some (machine.TheKeywordArgument ∷ machine.KeywordMessages told ∷ ss)
begin_message told (grammar.MessageMeta s) ss other = Some (machine.AnyArgument ∷ machine.BehindAnyMessage told ∷ ss)
begin_message told k ss other = other

-- one or two parts, or none
abbrev pub only : Option Part → Option Part → Parts
only p q = record { first = p; second = q; third = None; fourth = None }

-- what a move makes of the stack below the part, at a token
abbrev pub moved : Move → Stack → Terminal → Option Stack
moved Refuses ss k = None
moved Passes ss k = step ss k
moved (Reads ps) ss k = Some (put_all ps ss)

-- at each token of the sort the move is what is said
abbrev pub Does : Move → Sort → (Stack → Terminal → Option Stack) → Type 0
Does move sort f = (s : Text) (l : LiteralOf Text) (ss : Stack) → f ss (terminal sort s l) ≡ moved move ss (terminal sort s l)
