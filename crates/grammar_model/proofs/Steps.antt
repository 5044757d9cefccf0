-- A good stack stays good, and at the end of the text nothing is left of it.
use Rattle.std.proofs.Common.{Bool, true, false, [], ◌∷◌, Some, None}
use Rattle.std.specs.Prelude.{Option}
use Rattle.grammar_model.specs.Terminal.{Ordinary, Super, PrimitiveKeyword, Common, Sign, Less, Greater, Bar, SmallDigits, LargeDigits, Group, BlockStart, BraceStart, ArrayStart, BytesStart, GroupEnd, BlockEnd, BraceEnd, TextEnd, Terminal, Name, Keyword, Binary, Numeral, Constant, Opens, Closes, Assignment, Colon, Semicolon, Period, Caret, OperandMeta, AnyName, StatementMeta, AnyKey, AnyExpression, MessageMeta}
use Rattle.grammar_model.specs.Machine.{Stack, TheExpression, TheArgument, TheKeywordArgument, BehindName, BehindFirstSuper, BehindSuper, BehindSuperOfKeyword, BehindSuperOfBinary, UnaryOfBinary, UnaryOfKeyword, BinaryOfKeyword, UnaryMessages, BinaryMessages, KeywordMessages, TheMessage, TheCascade, TheNumeral, TheElements, TheBytes, TheItems, FurtherItem, TheBlock, TheParameter, TheParameters, TheSequence, TheNames, TheStatements, BehindStatement, BehindReturn, ThePattern, BinaryName, KeywordName, PatternRest, KernelBody, ThePrimitive, PrimitiveNumber, PrimitiveEnd, Awaits, begin_operand, begin_expression, begin_statement, begin_sequence, begin_body, begin_cascade, body_part, step, AnyArgument, BehindAnyMessage}
use Rattle.grammar_model.proofs.Stacks.{AllLow, IsNil, IsGood, low_good, GoodIfSome}

-- behind the first token of an operand
good_operand : (k : Terminal) (ss : Stack) (o : Option Stack) → AllLow ss → GoodIfSome o → GoodIfSome (begin_operand k ss o)
good_operand (Binary Sign s) ss o h g = h
good_operand (Numeral c t) ss o h g = low_good ss h
good_operand (Constant l) ss o h g = low_good ss h
good_operand (OperandMeta m n) ss o h g = low_good ss h
good_operand (Opens Group) ss o h g = h
good_operand (Opens BlockStart) ss o h g = h
good_operand (Opens BraceStart) ss o h g = h
good_operand (Opens ArrayStart) ss o h g = h
good_operand (Opens BytesStart) ss o h g = h
good_operand k ss o h g = g

-- behind the first token of an expression
good_expression : (k : Terminal) (ss : Stack) (o : Option Stack) → AllLow ss → GoodIfSome o → GoodIfSome (begin_expression k ss o)
good_expression (Name Ordinary n) ss o h g = h
good_expression (Name Super n) ss o h g = h
good_expression k ss o h g = good_operand k (UnaryMessages false ∷ ss) o h g

-- behind the first token of a statement
good_statement : (k : Terminal) (ss : Stack) (o : Option Stack) → AllLow ss → GoodIfSome o → GoodIfSome (begin_statement k ss o)
good_statement Period ss o h g = h
good_statement Caret ss o h g = h
good_statement (StatementMeta n) ss o h g = h
good_statement k ss o h g = good_expression k (BehindStatement ∷ ss) o h g

-- behind the first token of a sequence
good_sequence : (k : Terminal) (ss : Stack) (o : Option Stack) → AllLow ss → GoodIfSome o → GoodIfSome (begin_sequence k ss o)
good_sequence (Binary Bar s) ss o h g = h
good_sequence k ss o h g = good_statement k ss o h g

-- behind the first token of a method's body
good_body : (kernel : Bool) (k : Terminal) (ss : Stack) (o : Option Stack) → AllLow ss → GoodIfSome o → GoodIfSome (begin_body kernel k ss o)
good_body false k ss o h g = good_sequence k ss o h g
good_body true (Binary Less s) ss o h g = h
good_body true k ss o h g = good_sequence k ss o h g

-- before a method's body
good_body_part : (kernel : Bool) (ss : Stack) → AllLow ss → IsGood (body_part kernel ∷ ss)
good_body_part false ss h = h
good_body_part true ss h = h

-- behind a semicolon
good_cascade : (told : Bool) (ss : Stack) → AllLow ss → GoodIfSome (begin_cascade told ss)
good_cascade true ss h = h
good_cascade false ss h = tt

-- a low stack stays good
low_step : (ss : Stack) (k : Terminal) → AllLow ss → GoodIfSome (step ss k)
low_step [] k h = tt
low_step (UnaryOfBinary ∷ ss) (Name c n) h = h
low_step (UnaryOfBinary ∷ ss) (OperandMeta AnyName n) h = h
low_step (UnaryOfBinary ∷ ss) k h = low_step ss k h
low_step (UnaryOfKeyword ∷ ss) (Name c n) h = h
low_step (UnaryOfKeyword ∷ ss) (OperandMeta AnyName n) h = h
low_step (UnaryOfKeyword ∷ ss) (Binary c n) h = h
low_step (UnaryOfKeyword ∷ ss) k h = low_step ss k h
low_step (BinaryOfKeyword ∷ ss) (Binary c n) h = h
low_step (BinaryOfKeyword ∷ ss) k h = low_step ss k h
low_step (UnaryMessages told ∷ ss) (Name c n) h = h
low_step (UnaryMessages told ∷ ss) (OperandMeta AnyName n) h = h
low_step (UnaryMessages told ∷ ss) (Binary c n) h = h
low_step (UnaryMessages told ∷ ss) (Keyword c n) h = h
low_step (UnaryMessages told ∷ ss) (MessageMeta n) h = h
low_step (UnaryMessages told ∷ ss) Semicolon h = good_cascade told ss h
low_step (UnaryMessages told ∷ ss) k h = low_step ss k h
low_step (BinaryMessages told ∷ ss) (Binary c n) h = h
low_step (BinaryMessages told ∷ ss) (Keyword c n) h = h
low_step (BinaryMessages told ∷ ss) (MessageMeta n) h = h
low_step (BinaryMessages told ∷ ss) Semicolon h = good_cascade told ss h
low_step (BinaryMessages told ∷ ss) k h = low_step ss k h
low_step (KeywordMessages told ∷ ss) (Keyword c n) h = h
low_step (KeywordMessages told ∷ ss) (MessageMeta n) h = tt
low_step (KeywordMessages told ∷ ss) Semicolon h = good_cascade told ss h
low_step (KeywordMessages told ∷ ss) k h = low_step ss k h
low_step (BehindAnyMessage told ∷ ss) (Keyword c n) h = tt
low_step (BehindAnyMessage told ∷ ss) (MessageMeta n) h = tt
low_step (BehindAnyMessage told ∷ ss) Semicolon h = good_cascade told ss h
low_step (BehindAnyMessage told ∷ ss) k h = low_step ss k h
low_step (TheCascade ∷ ss) Semicolon h = h
low_step (TheCascade ∷ ss) k h = low_step ss k h
low_step (TheElements ∷ ss) (Name c n) h = h
low_step (TheElements ∷ ss) (Keyword AnyKey n) h = low_step ss (Keyword AnyKey n) h
low_step (TheElements ∷ ss) (Keyword c n) h = h
low_step (TheElements ∷ ss) (Binary Sign n) h = h
low_step (TheElements ∷ ss) (Binary Common n) h = h
low_step (TheElements ∷ ss) (Binary Less n) h = h
low_step (TheElements ∷ ss) (Binary Greater n) h = h
low_step (TheElements ∷ ss) (Binary Bar n) h = h
low_step (TheElements ∷ ss) (Numeral c n) h = h
low_step (TheElements ∷ ss) (Constant l) h = h
low_step (TheElements ∷ ss) (Opens BraceStart) h = low_step ss (Opens BraceStart) h
low_step (TheElements ∷ ss) (Opens Group) h = h
low_step (TheElements ∷ ss) (Opens ArrayStart) h = h
low_step (TheElements ∷ ss) (Opens BlockStart) h = h
low_step (TheElements ∷ ss) (Opens BytesStart) h = h
low_step (TheElements ∷ ss) k h = low_step ss k h
low_step (FurtherItem ∷ ss) Period h = h
low_step (FurtherItem ∷ ss) k h = low_step ss k h
low_step (BehindStatement ∷ ss) Period h = h
low_step (BehindStatement ∷ ss) k h = low_step ss k h
low_step (BehindReturn ∷ ss) Period h = h
low_step (BehindReturn ∷ ss) k h = low_step ss k h
low_step (Awaits GroupEnd ∷ ss) (Closes GroupEnd) h = low_good ss h
low_step (Awaits GroupEnd ∷ ss) k h = tt
low_step (Awaits BlockEnd ∷ ss) (Closes BlockEnd) h = low_good ss h
low_step (Awaits BlockEnd ∷ ss) k h = tt
low_step (Awaits BraceEnd ∷ ss) (Closes BraceEnd) h = low_good ss h
low_step (Awaits BraceEnd ∷ ss) k h = tt
low_step (Awaits TextEnd ∷ []) (Closes TextEnd) h = tt
low_step (Awaits TextEnd ∷ []) k h = tt
low_step (Awaits TextEnd ∷ p ∷ ss) k h = absurd h
low_step (p ∷ ss) k h = absurd h

-- the argument of a binary message
step_argument : (k : Terminal) (ss : Stack) → AllLow ss → GoodIfSome (step (TheArgument ∷ ss) k)
step_argument (Name Ordinary n) ss h = h
step_argument (Name Super n) ss h = h
step_argument k ss h = good_operand k (UnaryOfBinary ∷ ss) None h tt

-- the argument of a keyword
step_keyword_argument : (k : Terminal) (ss : Stack) → AllLow ss → GoodIfSome (step (TheKeywordArgument ∷ ss) k)
step_keyword_argument (Name Ordinary n) ss h = h
step_keyword_argument (Name Super n) ss h = h
step_keyword_argument k ss h = good_operand k (UnaryOfKeyword ∷ ss) None h tt

-- behind super
step_super : (k : Terminal) (ss : Stack) → AllLow ss → GoodIfSome (step (BehindFirstSuper ∷ ss) k)
step_super Assignment ss h = h
step_super (Name c n) ss h = h
step_super (OperandMeta AnyName n) ss h = h
step_super (Binary c n) ss h = h
step_super (Keyword c n) ss h = h
step_super (MessageMeta n) ss h = h
step_super k ss h = tt

-- behind a name
step_name : (k : Terminal) (ss : Stack) → AllLow ss → GoodIfSome (step (BehindName ∷ ss) k)
step_name Assignment ss h = h
step_name (Name c n) ss h = h
step_name (OperandMeta AnyName n) ss h = h
step_name (Binary c n) ss h = h
step_name (Keyword c n) ss h = h
step_name (MessageMeta n) ss h = h
step_name Semicolon ss h = tt
step_name k ss h = low_step ss k h

-- in a byte array
step_bytes : (k : Terminal) (ss : Stack) → AllLow ss → GoodIfSome (step (TheBytes ∷ ss) k)
step_bytes (Numeral SmallDigits n) ss h = h
step_bytes (Numeral LargeDigits n) ss h = h
step_bytes k ss h = low_step ss k h

-- behind parameters
step_parameters : (k : Terminal) (ss : Stack) → AllLow ss → GoodIfSome (step (TheParameters ∷ ss) k)
step_parameters Colon ss h = h
step_parameters (Binary Bar s) ss h = h
step_parameters k ss h = low_step ss k h

-- in a block
step_block : (k : Terminal) (ss : Stack) → AllLow ss → GoodIfSome (step (TheBlock ∷ ss) k)
step_block Colon ss h = h
step_block k ss h = good_sequence k ss (step ss k) h (low_step ss k h)

-- in a pattern
step_rest : (kernel : Bool) (k : Terminal) (ss : Stack) → AllLow ss → GoodIfSome (step (PatternRest kernel ∷ ss) k)
step_rest kernel (Keyword c n) ss h = h
step_rest kernel k ss h = good_body kernel k ss (step ss k) h (low_step ss k h)

-- a good stack stays good
pub good_step : (ss : Stack) (k : Terminal) → IsGood ss → GoodIfSome (step ss k)
good_step [] k h = tt
good_step (TheExpression ∷ ss) k h = good_expression k ss None h tt
good_step (TheArgument ∷ ss) k h = step_argument k ss h
good_step (TheKeywordArgument ∷ ss) k h = step_keyword_argument k ss h
good_step (BehindName ∷ ss) k h = step_name k ss h
good_step (BehindFirstSuper ∷ ss) k h = step_super k ss h
good_step (BehindSuper ∷ ss) (Name c n) h = h
good_step (BehindSuper ∷ ss) (OperandMeta AnyName n) h = h
good_step (BehindSuper ∷ ss) (Binary c n) h = h
good_step (BehindSuper ∷ ss) (Keyword c n) h = h
good_step (BehindSuper ∷ ss) (MessageMeta n) h = h
good_step (BehindSuper ∷ ss) k h = tt
good_step (BehindSuperOfKeyword ∷ ss) (Name c n) h = h
good_step (BehindSuperOfKeyword ∷ ss) (OperandMeta AnyName n) h = h
good_step (BehindSuperOfKeyword ∷ ss) (Binary c n) h = h
good_step (BehindSuperOfKeyword ∷ ss) k h = tt
good_step (BehindSuperOfBinary ∷ ss) (Name c n) h = h
good_step (BehindSuperOfBinary ∷ ss) (OperandMeta AnyName n) h = h
good_step (BehindSuperOfBinary ∷ ss) k h = tt
good_step (TheMessage ∷ ss) (Name c n) h = h
good_step (TheMessage ∷ ss) (OperandMeta AnyName n) h = h
good_step (TheMessage ∷ ss) (Binary c n) h = h
good_step (TheMessage ∷ ss) (Keyword c n) h = h
good_step (TheMessage ∷ ss) (MessageMeta n) h = h
good_step (TheMessage ∷ ss) k h = tt
good_step (AnyArgument ∷ ss) (OperandMeta AnyExpression n) h = low_good ss h
good_step (AnyArgument ∷ ss) k h = tt
good_step (TheNumeral ∷ ss) (Numeral c n) h = low_good ss h
good_step (TheNumeral ∷ ss) k h = tt
good_step (TheBytes ∷ ss) k h = step_bytes k ss h
good_step (TheItems ∷ ss) k h = good_expression k (FurtherItem ∷ ss) (step ss k) h (low_step ss k h)
good_step (TheBlock ∷ ss) k h = step_block k ss h
good_step (TheParameter ∷ ss) (Name c n) h = h
good_step (TheParameter ∷ ss) k h = tt
good_step (TheParameters ∷ ss) k h = step_parameters k ss h
good_step (TheSequence ∷ ss) k h = good_sequence k ss (step ss k) h (low_step ss k h)
good_step (TheNames ∷ ss) (Name c n) h = h
good_step (TheNames ∷ ss) (Binary Bar s) h = h
good_step (TheNames ∷ ss) k h = tt
good_step (TheStatements ∷ ss) k h = good_statement k ss (step ss k) h (low_step ss k h)
good_step (ThePattern kernel ∷ ss) (Name c n) h = good_body_part kernel ss h
good_step (ThePattern kernel ∷ ss) (Binary c n) h = h
good_step (ThePattern kernel ∷ ss) (Keyword c n) h = h
good_step (ThePattern kernel ∷ ss) k h = tt
good_step (BinaryName kernel ∷ ss) (Name c n) h = good_body_part kernel ss h
good_step (BinaryName kernel ∷ ss) k h = tt
good_step (KeywordName kernel ∷ ss) (Name c n) h = h
good_step (KeywordName kernel ∷ ss) k h = tt
good_step (PatternRest kernel ∷ ss) k h = step_rest kernel k ss h
good_step (KernelBody ∷ ss) k h = good_body true k ss (step ss k) h (low_step ss k h)
good_step (ThePrimitive ∷ ss) (Keyword PrimitiveKeyword n) h = h
good_step (ThePrimitive ∷ ss) k h = tt
good_step (PrimitiveNumber ∷ ss) (Numeral SmallDigits n) h = h
good_step (PrimitiveNumber ∷ ss) k h = tt
good_step (PrimitiveEnd ∷ ss) (Binary Greater s) h = low_good ss h
good_step (PrimitiveEnd ∷ ss) k h = tt
good_step (Awaits GroupEnd ∷ ss) k h = low_step (Awaits GroupEnd ∷ ss) k h
good_step (Awaits BlockEnd ∷ ss) k h = low_step (Awaits BlockEnd ∷ ss) k h
good_step (Awaits BraceEnd ∷ ss) k h = low_step (Awaits BraceEnd ∷ ss) k h
good_step (Awaits TextEnd ∷ []) k h = low_step (Awaits TextEnd ∷ []) k tt
good_step (Awaits TextEnd ∷ p ∷ ss) k h = absurd h
good_step (p ∷ ss) k h = low_step (p ∷ ss) k h

-- at the end of the text nothing is left, or it can not be read
abbrev pub EmptyIfSome : Option Stack → Type 0
EmptyIfSome None = Unit {0}
EmptyIfSome (Some ss) = IsNil ss

-- at the end of the text nothing is left of a low stack that reads it
low_end : (ss : Stack) → AllLow ss → EmptyIfSome (step ss (Closes TextEnd))
low_end [] h = absurd h
low_end (UnaryOfBinary ∷ ss) h = low_end ss h
low_end (UnaryOfKeyword ∷ ss) h = low_end ss h
low_end (BinaryOfKeyword ∷ ss) h = low_end ss h
low_end (UnaryMessages told ∷ ss) h = low_end ss h
low_end (BinaryMessages told ∷ ss) h = low_end ss h
low_end (KeywordMessages told ∷ ss) h = low_end ss h
low_end (BehindAnyMessage told ∷ ss) h = low_end ss h
low_end (TheCascade ∷ ss) h = low_end ss h
low_end (TheElements ∷ ss) h = low_end ss h
low_end (FurtherItem ∷ ss) h = low_end ss h
low_end (BehindStatement ∷ ss) h = low_end ss h
low_end (BehindReturn ∷ ss) h = low_end ss h
low_end (Awaits GroupEnd ∷ ss) h = tt
low_end (Awaits BlockEnd ∷ ss) h = tt
low_end (Awaits BraceEnd ∷ ss) h = tt
low_end (Awaits TextEnd ∷ []) h = tt
low_end (Awaits TextEnd ∷ p ∷ ss) h = absurd h
low_end (p ∷ ss) h = absurd h

-- at the end of the text nothing is left of a good stack that reads it
pub good_end : (ss : Stack) → IsGood ss → EmptyIfSome (step ss (Closes TextEnd))
good_end [] h = tt
good_end (TheExpression ∷ ss) h = tt
good_end (TheArgument ∷ ss) h = tt
good_end (TheKeywordArgument ∷ ss) h = tt
good_end (BehindFirstSuper ∷ ss) h = tt
good_end (BehindSuper ∷ ss) h = tt
good_end (BehindSuperOfKeyword ∷ ss) h = tt
good_end (BehindSuperOfBinary ∷ ss) h = tt
good_end (TheMessage ∷ ss) h = tt
good_end (AnyArgument ∷ ss) h = tt
good_end (TheNumeral ∷ ss) h = tt
good_end (TheParameter ∷ ss) h = tt
good_end (TheNames ∷ ss) h = tt
good_end (ThePattern kernel ∷ ss) h = tt
good_end (BinaryName kernel ∷ ss) h = tt
good_end (KeywordName kernel ∷ ss) h = tt
good_end (ThePrimitive ∷ ss) h = tt
good_end (PrimitiveNumber ∷ ss) h = tt
good_end (PrimitiveEnd ∷ ss) h = tt
good_end (Awaits GroupEnd ∷ ss) h = tt
good_end (Awaits BlockEnd ∷ ss) h = tt
good_end (Awaits BraceEnd ∷ ss) h = tt
good_end (Awaits TextEnd ∷ []) h = tt
good_end (Awaits TextEnd ∷ p ∷ ss) h = absurd h
good_end (PatternRest false ∷ ss) h = low_end ss h
good_end (PatternRest true ∷ ss) h = low_end ss h
good_end (p ∷ ss) h = low_end ss h
