-- Rows that are as long as they can be are rows.
use Rattle.std.proofs.Common.{ℕ, Bool, Option, List}
use Rattle.tree_model.specs.Tree.{Notes, LiteralOf, LiteralsOf}
use Rattle.grammar_model.specs.Terminal.{Text}
use Rattle.grammar_model.specs.Input.{Lexeme, Input}
use Rattle.grammar_model.specs.Spanned.{Declared, SpannedTree, SpannedTrees, SpannedMessages, SpannedStatements, SpannedSequence, SpannedMethod}
use Rattle.grammar_model.specs.Chain.{Chain}
use Rattle.grammar_model.specs.Ahead.{Longest, Any}
use Rattle.grammar_model.specs.Literals.{ByteElements, OneByte, NoBytes, LiteralAt, Unsigned, Negative, Fixed, Array, ByteArray, Element, LiteralElement, InnerArray, InnerBytes, NameElement, KeywordElement, BinaryElement, Elements, OneElement, NoElements}
use Rattle.grammar_model.specs.Grammar.{Temporaries, Periods, OnePeriod, NoPeriods, Names, OneName, NoNames, Parameters, OneParameter, NoParameters, Declares, DeclaresNone, Expression, Assigned, Simple, Operand, Variable, SuperName, LiteralOperand, Grouped, BlockOperand, BraceOperand, Unaries, OneUnary, NoUnaries, Binaries, OneBinary, NoBinaries, Keywords, OneKeywords, NoKeywords, Parts, LastPart, FurtherPart, Argument, BinaryArgument, KeywordArgument, ArgumentOfKeyword, Cascaded, NoCascade, OneCascade, Messages, OneMessage, LastMessage, Message, UnaryMessage, BinaryMessage, KeywordMessage, Items, NoItems, OneItem, FurtherItems, NextItem, LastItem, BlockBody, WithoutParameters, ParametersAlone, WithParameters, Sequence, Sequenced, Statements, BlankPeriod, NoMore, Returned, OneStatement, After, Ended, Unended, Finish, EndedReturn, UnendedReturn, MetaOperand, AnyUnary, AnyUnaryMessage, AnyStatement, AnyMessage, WholeMessage, AnyKeywords, AnyKeywordMessage}
use Rattle.grammar_model.specs.Whole.{IsDoIt, PatternParts, LastPatternPart, FurtherPatternPart, Pattern, UnaryPattern, BinaryPattern, KeywordPattern, MethodBody, WithBars, WithoutBars, Behind, Plainly, Primitively, IsMethod}

-- the numerals of a byte array, its rows ending anywhere
any_ByteElements : {i j : Input} {xs : LiteralsOf Text} → ByteElements Longest i xs j → ByteElements Any i xs j
any_ByteElements (OneByte e h d) = OneByte e h (any_ByteElements d)
any_ByteElements (NoBytes n) = NoBytes tt

mutual
  -- a literal, its rows ending anywhere
  any_LiteralAt : {i j : Input} {l : LiteralOf Text} → LiteralAt Longest i l j → LiteralAt Any i l j
  any_LiteralAt (Unsigned e) = Unsigned e
  any_LiteralAt (Negative e f) = Negative e f
  any_LiteralAt (Fixed e) = Fixed e
  any_LiteralAt (Array e a c) = Array e (any_Elements a) c
  any_LiteralAt (ByteArray e a c) = ByteArray e (any_ByteElements a) c

  -- an element of an array, its rows ending anywhere
  any_Element : {i j : Input} {l : LiteralOf Text} → Element Longest i l j → Element Any i l j
  any_Element (LiteralElement d) = LiteralElement (any_LiteralAt d)
  any_Element (InnerArray e a c) = InnerArray e (any_Elements a) c
  any_Element (InnerBytes e a c) = InnerBytes e (any_ByteElements a) c
  any_Element (NameElement e) = NameElement e
  any_Element (KeywordElement d) = KeywordElement d
  any_Element (BinaryElement e h) = BinaryElement e h

  -- the elements of an array, its rows ending anywhere
  any_Elements : {i j : Input} {xs : LiteralsOf Text} → Elements Longest i xs j → Elements Any i xs j
  any_Elements (OneElement d r) = OneElement (any_Element d) (any_Elements r)
  any_Elements (NoElements n) = NoElements tt

-- periods, its rows ending anywhere
any_Periods : {i j : Input} → Periods Longest i j → Periods Any i j
any_Periods (OnePeriod e d) = OnePeriod e (any_Periods d)
any_Periods (NoPeriods n) = NoPeriods tt

-- what stands behind a return, its rows ending anywhere
any_Finish : {i j : Input} {n : Notes} → Finish Longest i n j → Finish Any i n j
any_Finish (EndedReturn e p) = EndedReturn e (any_Periods p)
any_Finish (UnendedReturn n) = UnendedReturn tt

-- declared names, its rows ending anywhere
any_Names : {i j : Input} {ds : List Declared} → Names Longest i ds j → Names Any i ds j
any_Names (OneName e d) = OneName e (any_Names d)
any_Names (NoNames n) = NoNames tt

-- the parameters of a block, its rows ending anywhere
any_Parameters : {i j : Input} {ds : List Declared} → Parameters Longest i ds j → Parameters Any i ds j
any_Parameters (OneParameter e f d) = OneParameter e f (any_Parameters d)
any_Parameters (NoParameters n) = NoParameters tt

-- temporaries or none, its rows ending anywhere
any_Temporaries : {i j : Input} {ds : List Declared} → Temporaries Longest i ds j → Temporaries Any i ds j
any_Temporaries (Declares e d f) = Declares e (any_Names d) f
any_Temporaries (DeclaresNone n) = DeclaresNone tt

-- any message, its rows ending anywhere
any_AnyMessage : {i j : Input} {s : Text} {xs : SpannedTrees} → AnyMessage Longest i s xs j → AnyMessage Any i s xs j
any_AnyMessage (WholeMessage e f n) = WholeMessage e f tt

mutual
  -- an expression, its rows ending anywhere
  any_Expression : {i j : Input} {t : SpannedTree} → Expression Longest i t j → Expression Any i t j
  any_Expression (Assigned e f d) = Assigned e f (any_Expression d)
  any_Expression (Simple n o u b k c) = Simple tt (any_Operand o) (any_Unaries u) (any_Binaries b) (any_Keywords k) (any_Cascaded c)

  -- an operand, its rows ending anywhere
  any_Operand : {i j : Input} {r : Chain} → Operand Longest i r j → Operand Any i r j
  any_Operand (Variable e) = Variable e
  any_Operand (SuperName e) = SuperName e
  any_Operand (MetaOperand e) = MetaOperand e
  any_Operand (LiteralOperand d) = LiteralOperand (any_LiteralAt d)
  any_Operand (Grouped e d c) = Grouped e (any_Expression d) c
  any_Operand (BlockOperand e b c) = BlockOperand e (any_BlockBody b) c
  any_Operand (BraceOperand e d c) = BraceOperand e (any_Items d) c

  -- unary messages, its rows ending anywhere
  any_Unaries : {f : ℕ} {i j : Input} {r u : Chain} → Unaries Longest f r i u j → Unaries Any f r i u j
  any_Unaries (OneUnary e d) = OneUnary e (any_Unaries d)
  any_Unaries (AnyUnary e d) = AnyUnary e (any_Unaries d)
  any_Unaries (NoUnaries n) = NoUnaries tt

  -- binary messages, its rows ending anywhere
  any_Binaries : {f : ℕ} {i j : Input} {r u : Chain} → Binaries Longest f r i u j → Binaries Any f r i u j
  any_Binaries (OneBinary e x d) = OneBinary e (any_Argument x) (any_Binaries d)
  any_Binaries (NoBinaries n) = NoBinaries tt

  -- a keyword message or none, its rows ending anywhere
  any_Keywords : {f : ℕ} {i j : Input} {r u : Chain} → Keywords Longest f r i u j → Keywords Any f r i u j
  any_Keywords (OneKeywords d) = OneKeywords (any_Parts d)
  any_Keywords (AnyKeywords d) = AnyKeywords (any_AnyMessage d)
  any_Keywords (NoKeywords n) = NoKeywords tt

  -- keywords with their arguments, its rows ending anywhere
  any_Parts : {i j : Input} {s : Text} {xs : SpannedTrees} → Parts Longest i s xs j → Parts Any i s xs j
  any_Parts (LastPart e x n) = LastPart e (any_KeywordArgument x) tt
  any_Parts (FurtherPart e x d) = FurtherPart e (any_KeywordArgument x) (any_Parts d)

  -- the argument of a binary message, its rows ending anywhere
  any_Argument : {i j : Input} {t : SpannedTree} → Argument Longest i t j → Argument Any i t j
  any_Argument (BinaryArgument o u w) = BinaryArgument (any_Operand o) (any_Unaries u) w

  -- the argument of a keyword, its rows ending anywhere
  any_KeywordArgument : {i j : Input} {t : SpannedTree} → KeywordArgument Longest i t j → KeywordArgument Any i t j
  any_KeywordArgument (ArgumentOfKeyword o u b w) = ArgumentOfKeyword (any_Operand o) (any_Unaries u) (any_Binaries b) w

  -- a cascade or none, its rows ending anywhere
  any_Cascaded : {r : Chain} {i j : Input} {t : SpannedTree} → Cascaded Longest r i t j → Cascaded Any r i t j
  any_Cascaded (NoCascade w n) = NoCascade w tt
  any_Cascaded (OneCascade e d) = OneCascade e (any_Messages d)

  -- the messages of a cascade, its rows ending anywhere
  any_Messages : {i j : Input} {ms : SpannedMessages} → Messages Longest i ms j → Messages Any i ms j
  any_Messages (OneMessage e m d) = OneMessage e (any_Message m) (any_Messages d)
  any_Messages (LastMessage n) = LastMessage tt

  -- one message of a cascade, its rows ending anywhere
  any_Message : {i j : Input} {s : Text} {xs : SpannedTrees} → Message Longest i s xs j → Message Any i s xs j
  any_Message (UnaryMessage e) = UnaryMessage e
  any_Message (AnyUnaryMessage e) = AnyUnaryMessage e
  any_Message (BinaryMessage e x) = BinaryMessage e (any_Argument x)
  any_Message (KeywordMessage d) = KeywordMessage (any_Parts d)
  any_Message (AnyKeywordMessage d) = AnyKeywordMessage (any_AnyMessage d)

  -- the items of a brace array, its rows ending anywhere
  any_Items : {i j : Input} {ts : SpannedTrees} → Items Longest i ts j → Items Any i ts j
  any_Items (NoItems n) = NoItems tt
  any_Items (OneItem d r) = OneItem (any_Expression d) (any_FurtherItems r)

  -- what stands behind an item, its rows ending anywhere
  any_FurtherItems : {i j : Input} {ts : SpannedTrees} → FurtherItems Longest i ts j → FurtherItems Any i ts j
  any_FurtherItems (NextItem e d) = NextItem e (any_Items d)
  any_FurtherItems (LastItem n) = LastItem tt

  -- what stands between the brackets of a block, its rows ending anywhere
  any_BlockBody : {i j : Input} {ps ds : List Declared} {ss : SpannedStatements} → BlockBody Longest i ps ds ss j → BlockBody Any i ps ds ss j
  any_BlockBody (WithoutParameters n s) = WithoutParameters tt (any_Sequence s)
  any_BlockBody (ParametersAlone e p c) = ParametersAlone e (any_Parameters p) c
  any_BlockBody (WithParameters e p c s) = WithParameters e (any_Parameters p) c (any_Sequence s)

  -- a sequence, its rows ending anywhere
  any_Sequence : {i j : Input} {ds : List Declared} {ss : SpannedStatements} → Sequence Longest i ds ss j → Sequence Any i ds ss j
  any_Sequence (Sequenced d b) = Sequenced (any_Temporaries d) (any_Statements b)

  -- statements, its rows ending anywhere
  any_Statements : {i j : Input} {ss : SpannedStatements} → Statements Longest i ss j → Statements Any i ss j
  any_Statements (BlankPeriod e b) = BlankPeriod e (any_Statements b)
  any_Statements (NoMore n) = NoMore tt
  any_Statements (Returned e d f) = Returned e (any_Expression d) (any_Finish f)
  any_Statements (AnyStatement e a) = AnyStatement e (any_After a)
  any_Statements (OneStatement d a) = OneStatement (any_Expression d) (any_After a)

  -- what stands behind a statement, its rows ending anywhere
  any_After : {i j : Input} {n : Notes} {ss : SpannedStatements} → After Longest i n ss j → After Any i n ss j
  any_After (Ended e b) = Ended e (any_Statements b)
  any_After (Unended n) = Unended tt

-- a do-it is one whose rows may end anywhere
pub any_IsDoIt : (ts : List Lexeme) (s : SpannedSequence) → IsDoIt Longest ts s → IsDoIt Any ts s
any_IsDoIt ts s d = record { stop = d.stop; sequence = any_Sequence d.sequence; over = d.over }

-- the keywords of a pattern, its rows ending anywhere
any_PatternParts : {i j : Input} {s : Text} {ds : List Declared} → PatternParts Longest i s ds j → PatternParts Any i s ds j
any_PatternParts (LastPatternPart e f n) = LastPatternPart e f tt
any_PatternParts (FurtherPatternPart e f r) = FurtherPatternPart e f (any_PatternParts r)

-- a pattern, its rows ending anywhere
any_Pattern : {i j : Input} {s : Text} {ds : List Declared} → Pattern Longest i s ds j → Pattern Any i s ds j
any_Pattern (UnaryPattern e) = UnaryPattern e
any_Pattern (BinaryPattern e f) = BinaryPattern e f
any_Pattern (KeywordPattern d) = KeywordPattern (any_PatternParts d)

-- the body of a method, its rows ending anywhere
any_MethodBody : {i j : Input} {n : Notes} {ds : List Declared} {ss : SpannedStatements} → MethodBody Longest i n ds ss j → MethodBody Any i n ds ss j
any_MethodBody (WithBars e d f b) = WithBars e (any_Names d) f (any_Statements b)
any_MethodBody (WithoutBars n b) = WithoutBars tt (any_Statements b)

-- what stands behind a pattern, its rows ending anywhere
any_Behind : {kernel : Bool} {i j : Input} {n : Notes} {p : Option ℕ} {ds : List Declared} {ss : SpannedStatements} → Behind Longest kernel i n p ds ss j → Behind Any kernel i n p ds ss j
any_Behind (Plainly b) = Plainly (any_MethodBody b)
any_Behind (Primitively p) = Primitively p

-- a method is one whose rows may end anywhere
pub any_IsMethod : (kernel : Bool) (ts : List Lexeme) (m : SpannedMethod) → IsMethod Longest kernel ts m → IsMethod Any kernel ts m
any_IsMethod kernel ts m d = record { begin = d.begin; stop = d.stop; pattern = any_Pattern d.pattern; behind = any_Behind d.behind; over = d.over }
