-- The stack of the grammar's machine that a reader's parts are.
use Rattle.std.specs.Prelude.{true, false, List, [], ◌∷◌}
use Rattle.grammar_model.specs.Terminal.{GroupEnd, BlockEnd, BraceEnd, TextEnd}
use Rattle.grammar_model.specs.Machine as machine
use Rattle.grammar_model.specs.Machine.{Stack, Awaits}
use Rattle.st_events.specs.declared.part.Part.{Part}
use Rattle.st_events.specs.declared.part.Part.TheVariants as part
use Rattle.st_events.specs.declared.part.ExpressionPart.TheVariants as expression
use Rattle.st_events.specs.declared.part.Row.TheVariants as row
use Rattle.st_events.specs.declared.part.MessagePart.TheVariants as message
use Rattle.st_events.specs.declared.part.LiteralPart.TheVariants as literal
use Rattle.st_events.specs.declared.part.BlockPart.TheVariants as block
use Rattle.st_events.specs.declared.part.Enclosure.{Enclosure}
use Rattle.st_events.specs.declared.part.Enclosure.TheVariants as enclosure
use Rattle.st_events.specs.declared.part.Rest.TheVariants as rest
use Rattle.st_events.specs.declared.part.SequencePart.TheVariants as sequence
use Rattle.st_events.specs.declared.part.HeadPart.TheVariants as head
use Rattle.st_events.specs.Answers.{is_told}

-- the mark that closes statements, above these parts
abbrev pub closing : Enclosure → Stack → Stack
closing enclosure.Text ss = Awaits TextEnd ∷ ss
closing (enclosure.Block f outer) ss = Awaits BlockEnd ∷ ss

-- what a part is to the machine, above these parts
abbrev pub above : Part → Stack → Stack
above (part.Expression expression.Whole) ss = machine.TheExpression ∷ ss
above (part.Expression expression.BinaryArgument) ss = machine.TheArgument ∷ ss
above (part.Expression expression.KeywordArgument) ss = machine.TheKeywordArgument ∷ ss
above (part.Expression (expression.BehindName f e n true)) ss = machine.BehindFirstSuper ∷ ss
above (part.Expression (expression.BehindName f e n false)) ss = machine.BehindName ∷ ss
above (part.Expression (expression.BehindValue f)) ss = ss
above (part.Expression expression.AnyArgument) ss = machine.AnyArgument ∷ ss
above (part.Message (message.All f row.Super told)) ss = machine.BehindSuper ∷ ss
above (part.Message (message.All f row.Unary told)) ss = machine.UnaryMessages told ∷ ss
above (part.Message (message.All f row.Binary told)) ss = machine.BinaryMessages told ∷ ss
above (part.Message (message.OfKeyword f row.Super)) ss = machine.BehindSuperOfKeyword ∷ ss
above (part.Message (message.OfKeyword f row.Unary)) ss = machine.UnaryOfKeyword ∷ ss
above (part.Message (message.OfKeyword f row.Binary)) ss = machine.BinaryOfKeyword ∷ ss
above (part.Message (message.OfBinary f true)) ss = machine.BehindSuperOfBinary ∷ ss
above (part.Message (message.OfBinary f false)) ss = machine.UnaryOfBinary ∷ ss
above (part.Message (message.BehindArgument g s)) ss = ss
above (part.Message (message.BehindKeyword t n s)) ss = machine.KeywordMessages (is_told t) ∷ ss
above (part.Message (message.BehindAny f told)) ss = machine.BehindAnyMessage told ∷ ss
above (part.Message (message.InCascade f m)) ss = machine.TheMessage ∷ ss
above (part.Message (message.BehindCascade f m true)) ss = machine.BehindAnyMessage true ∷ ss
above (part.Message (message.BehindCascade f m false)) ss = machine.TheCascade ∷ ss
above (part.Literal (literal.Numeral s)) ss = machine.TheNumeral ∷ ss
above (part.Literal (literal.Elements n)) ss = machine.TheElements ∷ Awaits GroupEnd ∷ ss
above (part.Literal (literal.BehindKeyword s to n)) ss = machine.TheElements ∷ Awaits GroupEnd ∷ ss
above (part.Literal (literal.Bytes n)) ss = machine.TheBytes ∷ Awaits BlockEnd ∷ ss
above (part.Literal (literal.BehindOperand f)) ss = ss
above (part.Block (block.Start w)) ss = machine.TheBlock ∷ closing w ss
above (part.Block (block.Parameter w ps)) ss = machine.TheParameter ∷ closing w ss
above (part.Block (block.BehindParameter w ps)) ss = machine.TheParameters ∷ closing w ss
above (part.Block (block.Temporaries w ps)) ss = machine.TheSequence ∷ closing w ss
above (part.Block (block.Names w ps ds)) ss = machine.TheNames ∷ closing w ss
above (part.Sequence (sequence.Statements w n rest.Any)) ss = machine.TheStatements ∷ closing w ss
above (part.Sequence (sequence.Statements w n rest.Periods)) ss = machine.BehindReturn ∷ closing w ss
above (part.Sequence (sequence.Statements w n rest.Nothing)) ss = closing w ss
above (part.Sequence (sequence.BehindStatement f w n true)) ss = machine.BehindReturn ∷ closing w ss
above (part.Sequence (sequence.BehindStatement f w n false)) ss = machine.BehindStatement ∷ closing w ss
above (part.Sequence (sequence.BehindReturn f)) ss = ss
above (part.Sequence (sequence.Items f n true)) ss = machine.FurtherItem ∷ Awaits BraceEnd ∷ ss
above (part.Sequence (sequence.Items f n false)) ss = machine.TheItems ∷ Awaits BraceEnd ∷ ss
above (part.Sequence sequence.GroupEnd) ss = Awaits GroupEnd ∷ ss
above (part.Sequence sequence.Pattern) ss = machine.TheExpression ∷ Awaits TextEnd ∷ ss
above (part.Sequence (sequence.BehindPattern f)) ss = Awaits TextEnd ∷ ss
above (part.Head (head.Pattern kernel)) ss = machine.ThePattern kernel ∷ Awaits TextEnd ∷ ss
above (part.Head (head.Argument kernel)) ss = machine.BinaryName kernel ∷ Awaits TextEnd ∷ ss
above (part.Head (head.KeywordArgument kernel)) ss = machine.KeywordName kernel ∷ Awaits TextEnd ∷ ss
above (part.Head (head.BehindArgument kernel)) ss = machine.PatternRest kernel ∷ Awaits TextEnd ∷ ss
above (part.Head (head.MethodTemporaries kernel)) ss = machine.body_part kernel ∷ Awaits TextEnd ∷ ss
above (part.Head head.DoitTemporaries) ss = machine.TheSequence ∷ Awaits TextEnd ∷ ss
above (part.Head head.Names) ss = machine.TheNames ∷ Awaits TextEnd ∷ ss
above (part.Head head.Primitive) ss = machine.ThePrimitive ∷ Awaits TextEnd ∷ ss
above (part.Head head.PrimitiveNumber) ss = machine.PrimitiveNumber ∷ Awaits TextEnd ∷ ss
above (part.Head head.PrimitiveEnd) ss = machine.PrimitiveEnd ∷ Awaits TextEnd ∷ ss

-- what parts are to the machine
abbrev pub machine_of : List Part → Stack
machine_of [] = []
machine_of (p ∷ ps) = above p (machine_of ps)
