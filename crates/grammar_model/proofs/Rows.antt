-- Rows that may end anywhere end where no more of their tokens stand: looking ahead excludes no text.
use Rattle.std.proofs.Common.{◌≡◌, ℕ, Bool, Option, List, ap, sym, subst}
use Rattle.tree_model.specs.Tree.{Notes, LiteralOf}
use Rattle.grammar_model.specs.Terminal.{Text, Common, Sign, Less, Greater, Bar, Closing, TextEnd, Terminal, Name, Keyword, Binary, Numeral, Constant, Opens, Closes, Assignment, Colon, Semicolon, Period, Caret, OperandMeta, AnyName, StatementMeta, MessageMeta}
use Rattle.grammar_model.specs.Input.{Lexeme, Input, first_kind, kind_of, next}
use Rattle.grammar_model.specs.Spanned.{Declared, SpannedTree, SpannedTrees, SpannedMessages, SpannedStatements, SpannedSequence, SpannedMethod}
use Rattle.grammar_model.specs.Chain.{Chain}
use Rattle.grammar_model.specs.Ahead.{Longest, Any, NoName, NoKeyword, NoBinary, NoBar, NoSemicolon, NoColon, NoPeriod, NoOperand, NoStatement, NoAssignment, IsOperandStart, NoUnary, NoKey}
use Rattle.grammar_model.specs.Literals.{LiteralAt, Unsigned, Negative, Fixed, Array, ByteArray}
use Rattle.grammar_model.specs.Grammar.{Periods, OnePeriod, NoPeriods, Names, OneName, NoNames, Parameters, OneParameter, NoParameters, Declares, DeclaresNone, Expression, Assigned, Simple, Operand, Variable, SuperName, LiteralOperand, Grouped, BlockOperand, BraceOperand, Unaries, OneUnary, NoUnaries, Binaries, OneBinary, NoBinaries, Keywords, OneKeywords, NoKeywords, Parts, LastPart, FurtherPart, Argument, BinaryArgument, KeywordArgument, ArgumentOfKeyword, Cascaded, NoCascade, OneCascade, Messages, OneMessage, LastMessage, Message, UnaryMessage, BinaryMessage, KeywordMessage, Items, NoItems, OneItem, FurtherItems, NextItem, LastItem, BlockBody, WithoutParameters, ParametersAlone, WithParameters, Sequence, Sequenced, Statements, BlankPeriod, NoMore, Returned, OneStatement, After, Ended, Unended, Finish, EndedReturn, UnendedReturn, MetaOperand, AnyUnary, AnyUnaryMessage, AnyStatement, WholeMessage, AnyKeywords, AnyKeywordMessage}
use Rattle.grammar_model.specs.Whole.{IsOver, IsDoIt, PatternParts, LastPatternPart, FurtherPatternPart, Pattern, UnaryPattern, BinaryPattern, KeywordPattern, MethodBody, WithBars, WithoutBars, OnePrimitive, Behind, Plainly, Primitively, IsMethod}
use Rattle.grammar_model.proofs.OneTree.{starts_Expression}
use Rattle.grammar_model.proofs.RowsLiterals.{at_closing, longest_LiteralAt}

-- what stands behind an expression
abbrev EndsExpression : Terminal → Type 0
EndsExpression Period = Unit {0}
EndsExpression (Closes c) = Unit {0}
EndsExpression k = ⊥

-- what stands behind a message of a cascade
abbrev EndsMessage : Terminal → Type 0
EndsMessage Semicolon = Unit {0}
EndsMessage k = EndsExpression k

-- what stands behind a keyword's argument
abbrev EndsKeywordArgument : Terminal → Type 0
EndsKeywordArgument (Keyword c s) = Unit {0}
EndsKeywordArgument (MessageMeta s) = Unit {0}
EndsKeywordArgument k = EndsMessage k

-- what stands behind a binary message's argument
abbrev EndsArgument : Terminal → Type 0
EndsArgument (Binary c s) = Unit {0}
EndsArgument k = EndsKeywordArgument k

-- what stands behind an operand
abbrev EndsOperand : Terminal → Type 0
EndsOperand (Name c s) = Unit {0}
EndsOperand (OperandMeta AnyName s) = Unit {0}
EndsOperand k = EndsArgument k

-- what ends an expression ends a message
to_message : (k : Terminal) → EndsExpression k → EndsMessage k
to_message Period h = tt
to_message (Closes c) h = tt
to_message k h = absurd h

-- what ends a message ends a keyword's argument
to_keyword_argument : (k : Terminal) → EndsMessage k → EndsKeywordArgument k
to_keyword_argument Period h = tt
to_keyword_argument (Closes c) h = tt
to_keyword_argument Semicolon h = tt
to_keyword_argument k h = absurd h

-- what ends a keyword's argument ends a binary message's argument
to_argument : (k : Terminal) → EndsKeywordArgument k → EndsArgument k
to_argument Period h = tt
to_argument (Closes c) h = tt
to_argument Semicolon h = tt
to_argument (Keyword c s) h = tt
to_argument (MessageMeta s) h = tt
to_argument k h = absurd h

-- what ends a binary message's argument ends an operand
to_operand : (k : Terminal) → EndsArgument k → EndsOperand k
to_operand Period h = tt
to_operand (Closes c) h = tt
to_operand Semicolon h = tt
to_operand (Keyword c s) h = tt
to_operand (MessageMeta s) h = tt
to_operand (Binary c s) h = tt
to_operand k h = absurd h

-- no identifier ends an argument
ends_names : (k : Terminal) → EndsArgument k → NoUnary k
ends_names (Name c s) h = h
ends_names (OperandMeta AnyName s) h = h
ends_names k h = tt

-- no binary selector ends a keyword's argument
ends_binaries : (k : Terminal) → EndsKeywordArgument k → NoBinary k
ends_binaries (Binary c s) h = h
ends_binaries k h = tt

-- no keyword ends a message
ends_keywords : (k : Terminal) → EndsMessage k → NoKey k
ends_keywords (Keyword c s) h = h
ends_keywords (MessageMeta s) h = h
ends_keywords k h = tt

-- no semicolon ends an expression
ends_messages : (k : Terminal) → EndsExpression k → NoSemicolon k
ends_messages Semicolon h = h
ends_messages k h = tt

-- what ends an operand makes no assignment
no_assignment : (k l : Terminal) → EndsOperand l → NoAssignment k l
no_assignment (Name c n) Assignment h = h
no_assignment k l h = tt

-- what begins the rows behind an operand
first_Cascaded : {r : Chain} {i j : Input} {t : SpannedTree} → Cascaded Any r i t j → EndsExpression (kind_of j) → EndsMessage (kind_of i)
first_Cascaded (NoCascade w n) h = to_message _ h
first_Cascaded (OneCascade e d) h = subst EndsMessage (sym e) tt

-- what stands before the messages of a cascade
first_Messages : {i j : Input} {ms : SpannedMessages} → Messages Any i ms j → EndsExpression (kind_of j) → EndsMessage (kind_of i)
first_Messages (OneMessage e m d) h = subst EndsMessage (sym e) tt
first_Messages (LastMessage n) h = to_message _ h

-- what stands before keywords
first_Parts : {i j : Input} {s : Text} {xs : SpannedTrees} → Parts Any i s xs j → EndsKeywordArgument (kind_of i)
first_Parts (LastPart e x n) = subst EndsKeywordArgument (sym e) tt
first_Parts (FurtherPart e x d) = subst EndsKeywordArgument (sym e) tt

-- what stands before a keyword message
first_Keywords : {f : ℕ} {i j : Input} {r u : Chain} → Keywords Any f r i u j → EndsMessage (kind_of j) → EndsKeywordArgument (kind_of i)
first_Keywords (OneKeywords d) h = first_Parts d
first_Keywords (AnyKeywords (WholeMessage e f n)) h = subst EndsKeywordArgument (sym e) tt
first_Keywords (NoKeywords n) h = to_keyword_argument _ h

-- what stands before binary messages
first_Binaries : {f : ℕ} {i j : Input} {r u : Chain} → Binaries Any f r i u j → EndsKeywordArgument (kind_of j) → EndsArgument (kind_of i)
first_Binaries (OneBinary e x d) h = subst EndsArgument (sym e) tt
first_Binaries (NoBinaries n) h = to_argument _ h

-- what stands before unary messages
first_Unaries : {f : ℕ} {i j : Input} {r u : Chain} → Unaries Any f r i u j → EndsArgument (kind_of j) → EndsOperand (kind_of i)
first_Unaries (OneUnary e d) h = subst EndsOperand (sym e) tt
first_Unaries (AnyUnary e d) h = subst EndsOperand (sym e) tt
first_Unaries (NoUnaries n) h = to_operand _ h

-- what stands behind an item
first_FurtherItems : {i j : Input} {ts : SpannedTrees} {c : Closing} → FurtherItems Any i ts j → kind_of j ≡ Closes c → EndsExpression (kind_of i)
first_FurtherItems (NextItem e d) k = subst EndsExpression (sym e) tt
first_FurtherItems (LastItem n) k = at_closing EndsExpression k tt

-- what stands behind a statement
first_After : {i j : Input} {n : Notes} {ss : SpannedStatements} {c : Closing} → After Any i n ss j → kind_of j ≡ Closes c → EndsExpression (kind_of i)
first_After (Ended e b) k = subst EndsExpression (sym e) tt
first_After (Unended n) k = at_closing EndsExpression k tt

-- what stands behind a return
first_Finish : {i j : Input} {n : Notes} {c : Closing} → Finish Any i n j → kind_of j ≡ Closes c → EndsExpression (kind_of i)
first_Finish (EndedReturn e p) k = subst EndsExpression (sym e) tt
first_Finish (UnendedReturn n) k = at_closing EndsExpression k tt

-- no assignment begins with what is no name
no_name_begins : (k l : Terminal) → NoName k → NoAssignment k l
no_name_begins (Name c n) l h = absurd h
no_name_begins k l h = tt

-- a literal begins with no identifier
no_name_LiteralAt : {i j : Input} {l : LiteralOf Text} → LiteralAt Any i l j → NoName (kind_of i)
no_name_LiteralAt (Unsigned e) = subst NoName (sym e) tt
no_name_LiteralAt (Negative e f) = subst NoName (sym e) tt
no_name_LiteralAt (Fixed e) = subst NoName (sym e) tt
no_name_LiteralAt (Array e a c) = subst NoName (sym e) tt
no_name_LiteralAt (ByteArray e a c) = subst NoName (sym e) tt

-- an operand begins no assignment where what stands behind it ends an operand
operand_plain : {i j : Input} {r : Chain} → Operand Any i r j → EndsOperand (kind_of j) → NoAssignment (kind_of i) (kind_of (next i))
operand_plain {i} (Variable e) h = no_assignment (kind_of i) (kind_of (next i)) h
operand_plain {i} (SuperName e) h = no_assignment (kind_of i) (kind_of (next i)) h
operand_plain (MetaOperand e) h = no_name_begins _ _ (subst NoName (sym e) tt)
operand_plain (LiteralOperand d) h = no_name_begins _ _ (no_name_LiteralAt d)
operand_plain (Grouped e d c) h = no_name_begins _ _ (subst NoName (sym e) tt)
operand_plain (BlockOperand e d c) h = no_name_begins _ _ (subst NoName (sym e) tt)
operand_plain (BraceOperand e d c) h = no_name_begins _ _ (subst NoName (sym e) tt)

-- periods, its rows as long as they can be
longest_Periods : {i j : Input} {c : Closing} → Periods Any i j → kind_of j ≡ Closes c → Periods Longest i j
longest_Periods (OnePeriod e d) k = OnePeriod e (longest_Periods d k)
longest_Periods (NoPeriods n) k = NoPeriods (at_closing NoPeriod k tt)

-- what stands behind a return, its rows as long as they can be
longest_Finish : {i j : Input} {n : Notes} {c : Closing} → Finish Any i n j → kind_of j ≡ Closes c → Finish Longest i n j
longest_Finish (EndedReturn e p) k = EndedReturn e (longest_Periods p k)
longest_Finish (UnendedReturn n) k = UnendedReturn (at_closing NoPeriod k tt)

-- declared names, its rows as long as they can be
longest_Names : {i j : Input} {ds : List Declared} {s : Text} → Names Any i ds j → kind_of j ≡ Binary Bar s → Names Longest i ds j
longest_Names (OneName e d) k = OneName e (longest_Names d k)
longest_Names (NoNames n) k = NoNames (subst NoName (sym k) tt)

-- the parameters of a block, its rows as long as they can be
longest_Parameters : {i j : Input} {ds : List Declared} → Parameters Any i ds j → NoColon (kind_of j) → Parameters Longest i ds j
longest_Parameters (OneParameter e f d) k = OneParameter e f (longest_Parameters d k)
longest_Parameters (NoParameters n) k = NoParameters k

-- what statements begin with, and the closing mark behind them
abbrev BeginsStatements : Terminal → Type 0
BeginsStatements (Name c n) = Unit {0}
BeginsStatements (Binary Sign s) = Unit {0}
BeginsStatements (Numeral c t) = Unit {0}
BeginsStatements (Constant l) = Unit {0}
BeginsStatements (Opens o) = Unit {0}
BeginsStatements (OperandMeta m n) = Unit {0}
BeginsStatements (Closes c) = Unit {0}
BeginsStatements Period = Unit {0}
BeginsStatements Caret = Unit {0}
BeginsStatements (StatementMeta n) = Unit {0}
BeginsStatements k = ⊥

-- statements begin as operands do
operand_begins : (k : Terminal) → IsOperandStart k → BeginsStatements k
operand_begins (Name c n) h = tt
operand_begins (Binary Sign s) h = tt
operand_begins (Binary Common s) h = absurd h
operand_begins (Binary Less s) h = absurd h
operand_begins (Binary Greater s) h = absurd h
operand_begins (Binary Bar s) h = absurd h
operand_begins (Numeral c t) h = tt
operand_begins (Constant l) h = tt
operand_begins (Opens o) h = tt
operand_begins (OperandMeta m n) h = tt
operand_begins k h = absurd h

-- statements begin so
first_Statements : {i j : Input} {ss : SpannedStatements} {c : Closing} → Statements Longest i ss j → kind_of j ≡ Closes c → BeginsStatements (kind_of i)
first_Statements (BlankPeriod e b) k = subst BeginsStatements (sym e) tt
first_Statements (NoMore n) k = at_closing BeginsStatements k tt
first_Statements (Returned e d f) k = subst BeginsStatements (sym e) tt
first_Statements (AnyStatement e a) k = subst BeginsStatements (sym e) tt
first_Statements (OneStatement d a) k = operand_begins _ (starts_Expression d)

-- statements begin with no bar
begins_no_bar : (k : Terminal) → BeginsStatements k → NoBar k
begins_no_bar (Binary Bar s) h = h
begins_no_bar k h = tt

-- statements begin with no colon
begins_no_colon : (k : Terminal) → BeginsStatements k → NoColon k
begins_no_colon Colon h = h
begins_no_colon k h = tt

-- statements begin with no keyword
begins_no_keyword : (k : Terminal) → BeginsStatements k → NoKeyword k
begins_no_keyword (Keyword c n) h = h
begins_no_keyword k h = tt

-- a sequence begins with no colon
first_Sequence : {i j : Input} {ds : List Declared} {ss : SpannedStatements} {c : Closing} → Sequence Longest i ds ss j → kind_of j ≡ Closes c → NoColon (kind_of i)
first_Sequence (Sequenced (Declares e d f) b) k = subst NoColon (sym e) tt
first_Sequence (Sequenced (DeclaresNone n) b) k = begins_no_colon _ (first_Statements b k)

mutual
  -- an expression, its rows as long as they can be
  longest_Expression : {i j : Input} {t : SpannedTree} → Expression Any i t j → EndsExpression (kind_of j) → Expression Longest i t j
  longest_Expression (Assigned e f d) h = Assigned e f (longest_Expression d h)
  longest_Expression (Simple plain o u b k c) h =
      let message = first_Cascaded c h in
      let keyword = first_Keywords k message in
      let argument = first_Binaries b keyword in
      Simple (operand_plain o (first_Unaries u argument)) (longest_Operand o) (longest_Unaries u argument) (longest_Binaries b keyword) (longest_Keywords k message) (longest_Cascaded c h)

  -- an operand, its rows as long as they can be
  longest_Operand : {i j : Input} {r : Chain} → Operand Any i r j → Operand Longest i r j
  longest_Operand (Variable e) = Variable e
  longest_Operand (SuperName e) = SuperName e
  longest_Operand (MetaOperand e) = MetaOperand e
  longest_Operand (LiteralOperand d) = LiteralOperand (longest_LiteralAt d)
  longest_Operand (Grouped e d c) = Grouped e (longest_Expression d (at_closing EndsExpression c tt)) c
  longest_Operand (BlockOperand e b c) = BlockOperand e (longest_BlockBody b c) c
  longest_Operand (BraceOperand e d c) = BraceOperand e (longest_Items d c) c

  -- unary messages, its rows as long as they can be
  longest_Unaries : {f : ℕ} {i j : Input} {r u : Chain} → Unaries Any f r i u j → EndsArgument (kind_of j) → Unaries Longest f r i u j
  longest_Unaries (OneUnary e d) h = OneUnary e (longest_Unaries d h)
  longest_Unaries (AnyUnary e d) h = AnyUnary e (longest_Unaries d h)
  longest_Unaries (NoUnaries n) h = NoUnaries (ends_names _ h)

  -- binary messages, its rows as long as they can be
  longest_Binaries : {f : ℕ} {i j : Input} {r u : Chain} → Binaries Any f r i u j → EndsKeywordArgument (kind_of j) → Binaries Longest f r i u j
  longest_Binaries (OneBinary e x d) h = OneBinary e (longest_Argument x (first_Binaries d h)) (longest_Binaries d h)
  longest_Binaries (NoBinaries n) h = NoBinaries (ends_binaries _ h)

  -- a keyword message or none, its rows as long as they can be
  longest_Keywords : {f : ℕ} {i j : Input} {r u : Chain} → Keywords Any f r i u j → EndsMessage (kind_of j) → Keywords Longest f r i u j
  longest_Keywords (OneKeywords d) h = OneKeywords (longest_Parts d h)
  longest_Keywords (AnyKeywords (WholeMessage e f n)) h = AnyKeywords (WholeMessage e f (ends_keywords _ h))
  longest_Keywords (NoKeywords n) h = NoKeywords (ends_keywords _ h)

  -- keywords with their arguments, its rows as long as they can be
  longest_Parts : {i j : Input} {s : Text} {xs : SpannedTrees} → Parts Any i s xs j → EndsMessage (kind_of j) → Parts Longest i s xs j
  longest_Parts (LastPart e x n) h = LastPart e (longest_KeywordArgument x (to_keyword_argument _ h)) (ends_keywords _ h)
  longest_Parts (FurtherPart e x d) h = FurtherPart e (longest_KeywordArgument x (first_Parts d)) (longest_Parts d h)

  -- the argument of a binary message, its rows as long as they can be
  longest_Argument : {i j : Input} {t : SpannedTree} → Argument Any i t j → EndsArgument (kind_of j) → Argument Longest i t j
  longest_Argument (BinaryArgument o u w) h = BinaryArgument (longest_Operand o) (longest_Unaries u h) w

  -- the argument of a keyword, its rows as long as they can be
  longest_KeywordArgument : {i j : Input} {t : SpannedTree} → KeywordArgument Any i t j → EndsKeywordArgument (kind_of j) → KeywordArgument Longest i t j
  longest_KeywordArgument (ArgumentOfKeyword o u b w) h = ArgumentOfKeyword (longest_Operand o) (longest_Unaries u (first_Binaries b h)) (longest_Binaries b h) w

  -- a cascade or none, its rows as long as they can be
  longest_Cascaded : {r : Chain} {i j : Input} {t : SpannedTree} → Cascaded Any r i t j → EndsExpression (kind_of j) → Cascaded Longest r i t j
  longest_Cascaded (NoCascade w n) h = NoCascade w (ends_messages _ h)
  longest_Cascaded (OneCascade e d) h = OneCascade e (longest_Messages d h)

  -- the messages of a cascade, its rows as long as they can be
  longest_Messages : {i j : Input} {ms : SpannedMessages} → Messages Any i ms j → EndsExpression (kind_of j) → Messages Longest i ms j
  longest_Messages (OneMessage e m d) h = OneMessage e (longest_Message m (first_Messages d h)) (longest_Messages d h)
  longest_Messages (LastMessage n) h = LastMessage (ends_messages _ h)

  -- one message of a cascade, its rows as long as they can be
  longest_Message : {i j : Input} {s : Text} {xs : SpannedTrees} → Message Any i s xs j → EndsMessage (kind_of j) → Message Longest i s xs j
  longest_Message (UnaryMessage e) h = UnaryMessage e
  longest_Message (AnyUnaryMessage e) h = AnyUnaryMessage e
  longest_Message (BinaryMessage e x) h = BinaryMessage e (longest_Argument x (to_argument _ (to_keyword_argument _ h)))
  longest_Message (KeywordMessage d) h = KeywordMessage (longest_Parts d h)
  longest_Message (AnyKeywordMessage (WholeMessage e f n)) h = AnyKeywordMessage (WholeMessage e f (ends_keywords _ h))

  -- the items of a brace array, its rows as long as they can be
  longest_Items : {i j : Input} {ts : SpannedTrees} {c : Closing} → Items Any i ts j → kind_of j ≡ Closes c → Items Longest i ts j
  longest_Items (NoItems n) k = NoItems (at_closing NoOperand k tt)
  longest_Items (OneItem d r) k = OneItem (longest_Expression d (first_FurtherItems r k)) (longest_FurtherItems r k)

  -- what stands behind an item, its rows as long as they can be
  longest_FurtherItems : {i j : Input} {ts : SpannedTrees} {c : Closing} → FurtherItems Any i ts j → kind_of j ≡ Closes c → FurtherItems Longest i ts j
  longest_FurtherItems (NextItem e d) k = NextItem e (longest_Items d k)
  longest_FurtherItems (LastItem n) k = LastItem (at_closing NoPeriod k tt)

  -- what stands between the brackets of a block, its rows as long as they can be
  longest_BlockBody : {i j : Input} {ps ds : List Declared} {ss : SpannedStatements} {c : Closing} → BlockBody Any i ps ds ss j → kind_of j ≡ Closes c → BlockBody Longest i ps ds ss j
  longest_BlockBody (WithoutParameters n s) k = let b = longest_Sequence s k in WithoutParameters (first_Sequence b k) b
  longest_BlockBody (ParametersAlone e p c) k = ParametersAlone e (longest_Parameters p (at_closing NoColon c tt)) c
  longest_BlockBody (WithParameters e p c s) k = WithParameters e (longest_Parameters p (subst NoColon (sym c) tt)) c (longest_Sequence s k)

  -- a sequence, its rows as long as they can be
  longest_Sequence : {i j : Input} {ds : List Declared} {ss : SpannedStatements} {c : Closing} → Sequence Any i ds ss j → kind_of j ≡ Closes c → Sequence Longest i ds ss j
  longest_Sequence (Sequenced (Declares e d f) b) k = Sequenced (Declares e (longest_Names d f) f) (longest_Statements b k)
  longest_Sequence (Sequenced (DeclaresNone n) b) k = let s = longest_Statements b k in Sequenced (DeclaresNone (begins_no_bar _ (first_Statements s k))) s

  -- statements, its rows as long as they can be
  longest_Statements : {i j : Input} {ss : SpannedStatements} {c : Closing} → Statements Any i ss j → kind_of j ≡ Closes c → Statements Longest i ss j
  longest_Statements (BlankPeriod e b) k = BlankPeriod e (longest_Statements b k)
  longest_Statements (NoMore n) k = NoMore (at_closing NoStatement k tt)
  longest_Statements (Returned e d f) k = Returned e (longest_Expression d (first_Finish f k)) (longest_Finish f k)
  longest_Statements (AnyStatement e a) k = AnyStatement e (longest_After a k)
  longest_Statements (OneStatement d a) k = OneStatement (longest_Expression d (first_After a k)) (longest_After a k)

  -- what stands behind a statement, its rows as long as they can be
  longest_After : {i j : Input} {n : Notes} {ss : SpannedStatements} {c : Closing} → After Any i n ss j → kind_of j ≡ Closes c → After Longest i n ss j
  longest_After (Ended e b) k = Ended e (longest_Statements b k)
  longest_After (Unended n) k = Unended (at_closing NoPeriod k tt)

-- a text ends with its end
over_kind : {i : Input} {c : Notes} → IsOver i c → kind_of i ≡ Closes TextEnd
over_kind o = ap first_kind o.over

-- a do-it whose rows may end anywhere
pub longest_IsDoIt : (ts : List Lexeme) (s : SpannedSequence) → IsDoIt Any ts s → IsDoIt Longest ts s
longest_IsDoIt ts s d = record { stop = d.stop; sequence = longest_Sequence d.sequence (over_kind d.over); over = d.over }

-- the body of a method, its rows as long as they can be
longest_MethodBody : {i j : Input} {n : Notes} {ds : List Declared} {ss : SpannedStatements} {c : Closing} → MethodBody Any i n ds ss j → kind_of j ≡ Closes c → MethodBody Longest i n ds ss j
longest_MethodBody (WithBars e d f b) k = WithBars e (longest_Names d f) f (longest_Statements b k)
longest_MethodBody (WithoutBars n b) k = let s = longest_Statements b k in WithoutBars (begins_no_bar _ (first_Statements s k)) s

-- what stands behind a pattern, its rows as long as they can be
longest_Behind : {kernel : Bool} {i j : Input} {n : Notes} {p : Option ℕ} {ds : List Declared} {ss : SpannedStatements} {c : Closing} → Behind Any kernel i n p ds ss j → kind_of j ≡ Closes c → Behind Longest kernel i n p ds ss j
longest_Behind (Plainly b) k = Plainly (longest_MethodBody b k)
longest_Behind (Primitively p) k = Primitively p

-- no keyword stands behind a pattern
first_Behind : {kernel : Bool} {i j : Input} {n : Notes} {p : Option ℕ} {ds : List Declared} {ss : SpannedStatements} {c : Closing} → Behind Longest kernel i n p ds ss j → kind_of j ≡ Closes c → NoKeyword (kind_of i)
first_Behind (Plainly (WithBars e d f b)) k = subst NoKeyword (sym e) tt
first_Behind (Plainly (WithoutBars n b)) k = begins_no_keyword _ (first_Statements b k)
first_Behind (Primitively (OnePrimitive a b c d)) k = subst NoKeyword (sym a) tt

-- the keywords of a pattern, its rows as long as they can be
longest_PatternParts : {i j : Input} {s : Text} {ds : List Declared} → PatternParts Any i s ds j → NoKeyword (kind_of j) → PatternParts Longest i s ds j
longest_PatternParts (LastPatternPart e f n) k = LastPatternPart e f k
longest_PatternParts (FurtherPatternPart e f r) k = FurtherPatternPart e f (longest_PatternParts r k)

-- a pattern, its rows as long as they can be
longest_Pattern : {i j : Input} {s : Text} {ds : List Declared} → Pattern Any i s ds j → NoKeyword (kind_of j) → Pattern Longest i s ds j
longest_Pattern (UnaryPattern e) k = UnaryPattern e
longest_Pattern (BinaryPattern e f) k = BinaryPattern e f
longest_Pattern (KeywordPattern d) k = KeywordPattern (longest_PatternParts d k)

-- a method whose rows may end anywhere
pub longest_IsMethod : (kernel : Bool) (ts : List Lexeme) (m : SpannedMethod) → IsMethod Any kernel ts m → IsMethod Longest kernel ts m
longest_IsMethod kernel ts m d =
    let behind = longest_Behind d.behind (over_kind d.over) in
    record { begin = d.begin; stop = d.stop; pattern = longest_Pattern d.pattern (first_Behind behind (over_kind d.over)); behind = behind; over = d.over }
