-- A machine that reads tokens, with what may come next on a stack. It serves proofs: texts and faults are defined by the grammar.
use Rattle.std.specs.Prelude.{Bool, true, false, ◌&&◌, if◌then◌else◌, is_some, List, [], ◌∷◌, Option, Some, None}
use Rattle.std.specs.Option.{option_map_or}
use Rattle.grammar_model.specs.declared.wanted.Wanted.{Wanted}
use Rattle.grammar_model.specs.declared.wanted.Wanted.TheVariants as wanted
use Rattle.grammar_model.specs.Terminal.{Ordinary, Super, PrimitiveKeyword, Sign, Less, Greater, Bar, SmallDigits, LargeDigits, Group, BlockStart, BraceStart, ArrayStart, BytesStart, Closing, GroupEnd, BlockEnd, BraceEnd, TextEnd, Terminal, Name, Keyword, Binary, Numeral, Constant, Opens, Closes, Assignment, Colon, Semicolon, Period, Caret, OperandMeta, AnyName, AnyExpression, StatementMeta, MessageMeta, AnyKey}
use Rattle.grammar_model.specs.Input.{Lexeme, lex, first_from, first_kind, others}
use Rattle.grammar_model.specs.Whole.{Form, DoIt, Method, PatternText}
use Rattle.grammar_model.specs.Checks.{Fault, Expected, PrimitiveInUser}

-- What may come next. A flag of messages says that a message was sent from which a cascade can go on, and one of patterns that the method is of the kernel.
pub data Part : Type 0 where
  TheExpression : Part
  TheArgument : Part
  TheKeywordArgument : Part
  -- behind the first name of an expression; behind super there, and behind super where no assignment may follow
  BehindName : Part
  BehindFirstSuper : Part
  BehindSuper : Part
  BehindSuperOfKeyword : Part
  BehindSuperOfBinary : Part
  -- the messages of a binary message's argument, and those of a keyword's argument
  UnaryOfBinary : Part
  UnaryOfKeyword : Part
  BinaryOfKeyword : Part
  -- the messages of an expression
  UnaryMessages : Bool → Part
  BinaryMessages : Bool → Part
  KeywordMessages : Bool → Part
  TheMessage : Part
  -- the operand of any message, and behind it, where no keyword may follow
  AnyArgument : Part
  BehindAnyMessage : Bool → Part
  TheCascade : Part
  TheNumeral : Part
  TheElements : Part
  TheBytes : Part
  TheItems : Part
  FurtherItem : Part
  TheBlock : Part
  TheParameter : Part
  TheParameters : Part
  TheSequence : Part
  TheNames : Part
  TheStatements : Part
  BehindStatement : Part
  BehindReturn : Part
  ThePattern : Bool → Part
  BinaryName : Bool → Part
  KeywordName : Bool → Part
  PatternRest : Bool → Part
  KernelBody : Part
  ThePrimitive : Part
  PrimitiveNumber : Part
  PrimitiveEnd : Part
  Awaits : Closing → Part

-- the parts that may come next, in order
abbrev pub Stack : Type 0
Stack = List Part

-- behind the first token of an operand that is no name, with what may follow the operand; the last argument stands where no operand begins
abbrev pub begin_operand : Terminal → Stack → Option Stack → Option Stack
begin_operand (Binary Sign s) ss other = Some (TheNumeral ∷ ss)
begin_operand (Numeral c t) ss other = Some ss
begin_operand (Constant l) ss other = Some ss
begin_operand (Opens Group) ss other = Some (TheExpression ∷ Awaits GroupEnd ∷ ss)
begin_operand (Opens BlockStart) ss other = Some (TheBlock ∷ Awaits BlockEnd ∷ ss)
begin_operand (Opens BraceStart) ss other = Some (TheItems ∷ Awaits BraceEnd ∷ ss)
begin_operand (Opens ArrayStart) ss other = Some (TheElements ∷ Awaits GroupEnd ∷ ss)
begin_operand (Opens BytesStart) ss other = Some (TheBytes ∷ Awaits BlockEnd ∷ ss)
begin_operand (OperandMeta m n) ss other = Some ss
begin_operand k ss other = other

-- behind the first token of an expression
abbrev pub begin_expression : Terminal → Stack → Option Stack → Option Stack
begin_expression (Name Ordinary n) ss other = Some (BehindName ∷ ss)
begin_expression (Name Super n) ss other = Some (BehindFirstSuper ∷ ss)
begin_expression k ss other = begin_operand k (UnaryMessages false ∷ ss) other

-- behind a period or the first token of a statement
abbrev pub begin_statement : Terminal → Stack → Option Stack → Option Stack
begin_statement Period ss other = Some (TheStatements ∷ ss)
begin_statement Caret ss other = Some (TheExpression ∷ BehindReturn ∷ ss)
begin_statement (StatementMeta n) ss other = Some (BehindStatement ∷ ss)
begin_statement k ss other = begin_expression k (BehindStatement ∷ ss) other

-- behind the first token of a sequence
abbrev pub begin_sequence : Terminal → Stack → Option Stack → Option Stack
begin_sequence (Binary Bar s) ss other = Some (TheNames ∷ ss)
begin_sequence k ss other = begin_statement k ss other

-- behind the first token of a method's body
abbrev pub begin_body : Bool → Terminal → Stack → Option Stack → Option Stack
begin_body true (Binary Less s) ss other = Some (ThePrimitive ∷ ss)
begin_body kernel k ss other = begin_sequence k ss other

-- the body of a method
abbrev pub body_part : Bool → Part
body_part false = TheSequence
body_part true = KernelBody

-- behind a semicolon
abbrev pub begin_cascade : Bool → Stack → Option Stack
begin_cascade true ss = Some (TheMessage ∷ ss)
begin_cascade false ss = None

-- reads one token
abbrev pub step : Stack → Terminal → Option Stack
step [] k = None
step (TheExpression ∷ ss) k = begin_expression k ss None
step (TheArgument ∷ ss) (Name Ordinary n) = Some (UnaryOfBinary ∷ ss)
step (TheArgument ∷ ss) (Name Super n) = Some (BehindSuperOfBinary ∷ ss)
step (TheArgument ∷ ss) k = begin_operand k (UnaryOfBinary ∷ ss) None
step (TheKeywordArgument ∷ ss) (Name Ordinary n) = Some (UnaryOfKeyword ∷ ss)
step (TheKeywordArgument ∷ ss) (Name Super n) = Some (BehindSuperOfKeyword ∷ ss)
step (TheKeywordArgument ∷ ss) k = begin_operand k (UnaryOfKeyword ∷ ss) None
step (BehindName ∷ ss) Assignment = Some (TheExpression ∷ ss)
step (BehindName ∷ ss) (Name c n) = Some (UnaryMessages true ∷ ss)
step (BehindName ∷ ss) (OperandMeta AnyName n) = Some (UnaryMessages true ∷ ss)
step (BehindName ∷ ss) (Binary c s) = Some (TheArgument ∷ BinaryMessages true ∷ ss)
step (BehindName ∷ ss) (Keyword c s) = Some (TheKeywordArgument ∷ KeywordMessages true ∷ ss)
step (BehindName ∷ ss) (MessageMeta s) = Some (AnyArgument ∷ BehindAnyMessage true ∷ ss)
step (BehindName ∷ ss) Semicolon = None
step (BehindName ∷ ss) k = step ss k
step (BehindFirstSuper ∷ ss) Assignment = Some (TheExpression ∷ ss)
step (BehindFirstSuper ∷ ss) (Name c n) = Some (UnaryMessages false ∷ ss)
step (BehindFirstSuper ∷ ss) (OperandMeta AnyName n) = Some (UnaryMessages false ∷ ss)
step (BehindFirstSuper ∷ ss) (Binary c s) = Some (TheArgument ∷ BinaryMessages false ∷ ss)
step (BehindFirstSuper ∷ ss) (Keyword c s) = Some (TheKeywordArgument ∷ KeywordMessages false ∷ ss)
step (BehindFirstSuper ∷ ss) (MessageMeta s) = Some (AnyArgument ∷ BehindAnyMessage false ∷ ss)
step (BehindFirstSuper ∷ ss) k = None
step (BehindSuper ∷ ss) (Name c n) = Some (UnaryMessages false ∷ ss)
step (BehindSuper ∷ ss) (OperandMeta AnyName n) = Some (UnaryMessages false ∷ ss)
step (BehindSuper ∷ ss) (Binary c s) = Some (TheArgument ∷ BinaryMessages false ∷ ss)
step (BehindSuper ∷ ss) (Keyword c s) = Some (TheKeywordArgument ∷ KeywordMessages false ∷ ss)
step (BehindSuper ∷ ss) (MessageMeta s) = Some (AnyArgument ∷ BehindAnyMessage false ∷ ss)
step (BehindSuper ∷ ss) k = None
step (BehindSuperOfKeyword ∷ ss) (Name c n) = Some (UnaryOfKeyword ∷ ss)
step (BehindSuperOfKeyword ∷ ss) (OperandMeta AnyName n) = Some (UnaryOfKeyword ∷ ss)
step (BehindSuperOfKeyword ∷ ss) (Binary c s) = Some (TheArgument ∷ BinaryOfKeyword ∷ ss)
step (BehindSuperOfKeyword ∷ ss) k = None
step (BehindSuperOfBinary ∷ ss) (Name c n) = Some (UnaryOfBinary ∷ ss)
step (BehindSuperOfBinary ∷ ss) (OperandMeta AnyName n) = Some (UnaryOfBinary ∷ ss)
step (BehindSuperOfBinary ∷ ss) k = None
step (UnaryOfBinary ∷ ss) (Name c n) = Some (UnaryOfBinary ∷ ss)
step (UnaryOfBinary ∷ ss) (OperandMeta AnyName n) = Some (UnaryOfBinary ∷ ss)
step (UnaryOfBinary ∷ ss) k = step ss k
step (UnaryOfKeyword ∷ ss) (Name c n) = Some (UnaryOfKeyword ∷ ss)
step (UnaryOfKeyword ∷ ss) (OperandMeta AnyName n) = Some (UnaryOfKeyword ∷ ss)
step (UnaryOfKeyword ∷ ss) (Binary c s) = Some (TheArgument ∷ BinaryOfKeyword ∷ ss)
step (UnaryOfKeyword ∷ ss) k = step ss k
step (BinaryOfKeyword ∷ ss) (Binary c s) = Some (TheArgument ∷ BinaryOfKeyword ∷ ss)
step (BinaryOfKeyword ∷ ss) k = step ss k
step (UnaryMessages told ∷ ss) (Name c n) = Some (UnaryMessages true ∷ ss)
step (UnaryMessages told ∷ ss) (OperandMeta AnyName n) = Some (UnaryMessages true ∷ ss)
step (UnaryMessages told ∷ ss) (Binary c s) = Some (TheArgument ∷ BinaryMessages true ∷ ss)
step (UnaryMessages told ∷ ss) (Keyword c s) = Some (TheKeywordArgument ∷ KeywordMessages true ∷ ss)
step (UnaryMessages told ∷ ss) (MessageMeta s) = Some (AnyArgument ∷ BehindAnyMessage true ∷ ss)
step (UnaryMessages told ∷ ss) Semicolon = begin_cascade told ss
step (UnaryMessages told ∷ ss) k = step ss k
step (BinaryMessages told ∷ ss) (Binary c s) = Some (TheArgument ∷ BinaryMessages true ∷ ss)
step (BinaryMessages told ∷ ss) (Keyword c s) = Some (TheKeywordArgument ∷ KeywordMessages true ∷ ss)
step (BinaryMessages told ∷ ss) (MessageMeta s) = Some (AnyArgument ∷ BehindAnyMessage true ∷ ss)
step (BinaryMessages told ∷ ss) Semicolon = begin_cascade told ss
step (BinaryMessages told ∷ ss) k = step ss k
step (KeywordMessages told ∷ ss) (Keyword c s) = Some (TheKeywordArgument ∷ KeywordMessages told ∷ ss)
step (KeywordMessages told ∷ ss) (MessageMeta s) = None
step (KeywordMessages told ∷ ss) Semicolon = begin_cascade told ss
step (KeywordMessages told ∷ ss) k = step ss k
step (AnyArgument ∷ ss) (OperandMeta AnyExpression n) = Some ss
step (AnyArgument ∷ ss) k = None
step (BehindAnyMessage told ∷ ss) (Keyword c s) = None
step (BehindAnyMessage told ∷ ss) (MessageMeta s) = None
step (BehindAnyMessage told ∷ ss) Semicolon = begin_cascade told ss
step (BehindAnyMessage told ∷ ss) k = step ss k
step (TheMessage ∷ ss) (Name c n) = Some (TheCascade ∷ ss)
step (TheMessage ∷ ss) (OperandMeta AnyName n) = Some (TheCascade ∷ ss)
step (TheMessage ∷ ss) (Binary c s) = Some (TheArgument ∷ TheCascade ∷ ss)
step (TheMessage ∷ ss) (Keyword c s) = Some (TheKeywordArgument ∷ KeywordMessages true ∷ ss)
step (TheMessage ∷ ss) (MessageMeta s) = Some (AnyArgument ∷ BehindAnyMessage true ∷ ss)
step (TheMessage ∷ ss) k = None
step (TheCascade ∷ ss) Semicolon = Some (TheMessage ∷ ss)
step (TheCascade ∷ ss) k = step ss k
step (TheNumeral ∷ ss) (Numeral c t) = Some ss
step (TheNumeral ∷ ss) k = None
step (TheElements ∷ ss) (Name c n) = Some (TheElements ∷ ss)
step (TheElements ∷ ss) (Keyword AnyKey n) = step ss (Keyword AnyKey n)
step (TheElements ∷ ss) (Keyword c n) = Some (TheElements ∷ ss)
step (TheElements ∷ ss) (Binary Sign s) = Some (TheNumeral ∷ TheElements ∷ ss)
step (TheElements ∷ ss) (Binary c s) = Some (TheElements ∷ ss)
step (TheElements ∷ ss) (Numeral c t) = Some (TheElements ∷ ss)
step (TheElements ∷ ss) (Constant l) = Some (TheElements ∷ ss)
step (TheElements ∷ ss) (Opens BraceStart) = step ss (Opens BraceStart)
step (TheElements ∷ ss) (Opens Group) = Some (TheElements ∷ Awaits GroupEnd ∷ TheElements ∷ ss)
step (TheElements ∷ ss) (Opens ArrayStart) = Some (TheElements ∷ Awaits GroupEnd ∷ TheElements ∷ ss)
step (TheElements ∷ ss) (Opens BlockStart) = Some (TheBytes ∷ Awaits BlockEnd ∷ TheElements ∷ ss)
step (TheElements ∷ ss) (Opens BytesStart) = Some (TheBytes ∷ Awaits BlockEnd ∷ TheElements ∷ ss)
step (TheElements ∷ ss) k = step ss k
step (TheBytes ∷ ss) (Numeral SmallDigits t) = Some (TheBytes ∷ ss)
step (TheBytes ∷ ss) (Numeral LargeDigits t) = Some (TheBytes ∷ ss)
step (TheBytes ∷ ss) k = step ss k
step (TheItems ∷ ss) k = begin_expression k (FurtherItem ∷ ss) (step ss k)
step (FurtherItem ∷ ss) Period = Some (TheItems ∷ ss)
step (FurtherItem ∷ ss) k = step ss k
step (TheBlock ∷ ss) Colon = Some (TheParameter ∷ ss)
step (TheBlock ∷ ss) k = begin_sequence k ss (step ss k)
step (TheParameter ∷ ss) (Name c n) = Some (TheParameters ∷ ss)
step (TheParameter ∷ ss) k = None
step (TheParameters ∷ ss) Colon = Some (TheParameter ∷ ss)
step (TheParameters ∷ ss) (Binary Bar s) = Some (TheSequence ∷ ss)
step (TheParameters ∷ ss) k = step ss k
step (TheSequence ∷ ss) k = begin_sequence k ss (step ss k)
step (TheNames ∷ ss) (Name c n) = Some (TheNames ∷ ss)
step (TheNames ∷ ss) (Binary Bar s) = Some (TheStatements ∷ ss)
step (TheNames ∷ ss) k = None
step (TheStatements ∷ ss) k = begin_statement k ss (step ss k)
step (BehindStatement ∷ ss) Period = Some (TheStatements ∷ ss)
step (BehindStatement ∷ ss) k = step ss k
step (BehindReturn ∷ ss) Period = Some (BehindReturn ∷ ss)
step (BehindReturn ∷ ss) k = step ss k
step (ThePattern kernel ∷ ss) (Name c n) = Some (body_part kernel ∷ ss)
step (ThePattern kernel ∷ ss) (Binary c s) = Some (BinaryName kernel ∷ ss)
step (ThePattern kernel ∷ ss) (Keyword c s) = Some (KeywordName kernel ∷ ss)
step (ThePattern kernel ∷ ss) k = None
step (BinaryName kernel ∷ ss) (Name c n) = Some (body_part kernel ∷ ss)
step (BinaryName kernel ∷ ss) k = None
step (KeywordName kernel ∷ ss) (Name c n) = Some (PatternRest kernel ∷ ss)
step (KeywordName kernel ∷ ss) k = None
step (PatternRest kernel ∷ ss) (Keyword c s) = Some (KeywordName kernel ∷ ss)
step (PatternRest kernel ∷ ss) k = begin_body kernel k ss (step ss k)
step (KernelBody ∷ ss) k = begin_body true k ss (step ss k)
step (ThePrimitive ∷ ss) (Keyword PrimitiveKeyword k) = Some (PrimitiveNumber ∷ ss)
step (ThePrimitive ∷ ss) k = None
step (PrimitiveNumber ∷ ss) (Numeral SmallDigits t) = Some (PrimitiveEnd ∷ ss)
step (PrimitiveNumber ∷ ss) k = None
step (PrimitiveEnd ∷ ss) (Binary Greater s) = Some ss
step (PrimitiveEnd ∷ ss) k = None
step (Awaits GroupEnd ∷ ss) (Closes GroupEnd) = Some ss
step (Awaits BlockEnd ∷ ss) (Closes BlockEnd) = Some ss
step (Awaits BraceEnd ∷ ss) (Closes BraceEnd) = Some ss
step (Awaits TextEnd ∷ ss) (Closes TextEnd) = Some ss
step (Awaits c ∷ ss) k = None

-- what could stand here
abbrev pub wish : Stack → Wanted
wish [] = wanted.End
wish (TheExpression ∷ ss) = wanted.Operand
wish (TheArgument ∷ ss) = wanted.Operand
wish (TheKeywordArgument ∷ ss) = wanted.Operand
wish (AnyArgument ∷ ss) = wanted.Operand
wish (TheItems ∷ ss) = wanted.Operand
wish (TheBlock ∷ ss) = wanted.Operand
wish (TheSequence ∷ ss) = wanted.Operand
wish (TheStatements ∷ ss) = wanted.Operand
wish (PatternRest kernel ∷ ss) = wanted.Operand
wish (KernelBody ∷ ss) = wanted.Operand
wish (BehindSuperOfBinary ∷ ss) = wanted.Identifier
wish (TheParameter ∷ ss) = wanted.Identifier
wish (BinaryName kernel ∷ ss) = wanted.Identifier
wish (KeywordName kernel ∷ ss) = wanted.Identifier
wish (TheElements ∷ ss) = wanted.Element
wish (TheBytes ∷ ss) = wanted.Element
wish (BehindName ∷ ss) = wish ss
wish (UnaryOfBinary ∷ ss) = wish ss
wish (UnaryOfKeyword ∷ ss) = wish ss
wish (BinaryOfKeyword ∷ ss) = wish ss
wish (UnaryMessages told ∷ ss) = wish ss
wish (BinaryMessages told ∷ ss) = wish ss
wish (KeywordMessages told ∷ ss) = wish ss
wish (BehindAnyMessage told ∷ ss) = wish ss
wish (TheCascade ∷ ss) = wish ss
wish (TheNumeral ∷ ss) = wish ss
wish (FurtherItem ∷ ss) = wish ss
wish (TheParameters ∷ ss) = wish ss
wish (BehindStatement ∷ ss) = wish ss
wish (BehindReturn ∷ ss) = wish ss
wish (p ∷ ss) = wanted.End

-- whether a statement could begin here, as a return could
abbrev pub may_start : Stack → Bool
may_start ss = is_some (step ss Caret)

-- where a text is wrong
pub data Wrong : Type 0 where
  -- the tokens end before the end of a text
  Missing : Wrong
  -- what is left from the first wrong token on, what could stand there, and whether a statement could begin there
  At : List Lexeme → Wanted → Bool → Wrong

-- nothing more is needed
abbrev pub ended : Stack → Option Wrong
ended [] = None
ended (BehindName ∷ ss) = ended ss
ended (UnaryOfBinary ∷ ss) = ended ss
ended (UnaryOfKeyword ∷ ss) = ended ss
ended (BinaryOfKeyword ∷ ss) = ended ss
ended (UnaryMessages told ∷ ss) = ended ss
ended (BinaryMessages told ∷ ss) = ended ss
ended (KeywordMessages told ∷ ss) = ended ss
ended (BehindAnyMessage told ∷ ss) = ended ss
ended (TheCascade ∷ ss) = ended ss
ended (TheElements ∷ ss) = ended ss
ended (TheBytes ∷ ss) = ended ss
ended (TheItems ∷ ss) = ended ss
ended (FurtherItem ∷ ss) = ended ss
ended (TheBlock ∷ ss) = ended ss
ended (TheParameters ∷ ss) = ended ss
ended (TheSequence ∷ ss) = ended ss
ended (TheStatements ∷ ss) = ended ss
ended (BehindStatement ∷ ss) = ended ss
ended (BehindReturn ∷ ss) = ended ss
ended (PatternRest kernel ∷ ss) = ended ss
ended (KernelBody ∷ ss) = ended ss
ended (p ∷ ss) = Some Missing

-- where the tokens are wrong; nothing where all is well
abbrev pub run : Stack → List Lexeme → Option Wrong
run ss [] = ended ss
run ss (lex c f e k ∷ ts) = option_map_or (λ s. run s ts) (step ss k) (Some (At (lex c f e k ∷ ts) (wish ss) (may_start ss)))

-- what is left of the stack behind these tokens
abbrev pub feeds : Stack → List Terminal → Option Stack
feeds ss [] = Some ss
feeds ss (k ∷ ks) = option_map_or (λ s. feeds s ks) (step ss k) None

-- the stack before a text
abbrev pub start : Form → Stack
start DoIt = TheSequence ∷ Awaits TextEnd ∷ []
start (Method kernel) = ThePattern kernel ∷ Awaits TextEnd ∷ []
start PatternText = TheExpression ∷ Awaits TextEnd ∷ []

-- whether the texts are those of users
abbrev pub is_user : Form → Bool
is_user DoIt = true
is_user PatternText = true
is_user (Method true) = false
is_user (Method false) = true

-- the bracket that opens a primitive, and then its keyword
abbrev pub is_primitive : Terminal → Terminal → Bool
is_primitive (Binary Less s) (Keyword PrimitiveKeyword k) = true
is_primitive k l = false

-- the fault at the first of these tokens, by what could stand there and whether a statement could begin there
abbrev pub fault_at : Form → List Lexeme → Wanted → Bool → Fault
fault_at form ts what starts =
    if is_user form && starts && is_primitive (first_kind ts) (first_kind (others ts)) then PrimitiveInUser (first_from ts) else Expected what (first_from ts)
