-- What the grammar spells, the machine reads.
use Rattle.std.proofs.Common.{◌≡◌, ℕ, Bool, true, List, ◌∷◌, Some, None, refl, ap, sym, ◌∙◌}
use Rattle.tree_model.specs.Tree.{Notes, LiteralOf, LiteralsOf}
use Rattle.grammar_model.specs.Terminal.{Text, NameKind, Ordinary, Super, KeywordKind, BinaryKind, Sign, Bar, SmallDigits, LargeDigits, OtherNumeral, Group, BlockStart, BraceStart, ArrayStart, BytesStart, GroupEnd, BlockEnd, BraceEnd, Terminal, Name, Keyword, Binary, Numeral, Constant, Opens, Closes, Assignment, Colon, Semicolon, Period, Caret, OperandMeta, AnyName, StatementMeta, AnyKey, AnyExpression, MessageMeta}
use Rattle.grammar_model.specs.Input.{Lexeme, Input, first_kind, others, kind_of, next}
use Rattle.grammar_model.specs.Spanned.{Declared, SpannedTree, SpannedTrees, SpannedMessages, SpannedStatements, one_tree, NoTrees}
use Rattle.grammar_model.specs.Chain.{Chain, Alone}
use Rattle.grammar_model.specs.Ahead.{Longest, NoBinary, IsDigits, NoUnary, NoKey}
use Rattle.grammar_model.specs.Literals.{NoSign, KeywordRow, LastKeyword, JoinedKeyword, ByteElements, OneByte, NoBytes, LiteralAt, Unsigned, Negative, Fixed, Array, ByteArray, Element, LiteralElement, InnerArray, InnerBytes, NameElement, KeywordElement, BinaryElement, Elements, OneElement, NoElements, NoAnyKey}
use Rattle.grammar_model.specs.Grammar.{Periods, OnePeriod, NoPeriods, Names, OneName, NoNames, Parameters, OneParameter, NoParameters, Temporaries, Declares, DeclaresNone, Expression, Assigned, Simple, Operand, Variable, SuperName, LiteralOperand, Grouped, BlockOperand, BraceOperand, Unaries, OneUnary, NoUnaries, Binaries, OneBinary, NoBinaries, Keywords, OneKeywords, NoKeywords, Parts, LastPart, FurtherPart, Argument, BinaryArgument, KeywordArgument, ArgumentOfKeyword, Cascaded, NoCascade, OneCascade, Messages, OneMessage, LastMessage, Message, UnaryMessage, BinaryMessage, KeywordMessage, Items, NoItems, OneItem, FurtherItems, NextItem, LastItem, BlockBody, WithoutParameters, ParametersAlone, WithParameters, Sequence, Sequenced, Statements, BlankPeriod, NoMore, Returned, OneStatement, After, Ended, Unended, Finish, EndedReturn, UnendedReturn, MetaOperand, AnyUnary, AnyUnaryMessage, AnyStatement, AnyMessage, WholeMessage, AnyKeywords, AnyKeywordMessage}
use Rattle.grammar_model.specs.Machine.{Stack, TheExpression, TheArgument, TheKeywordArgument, BehindName, BehindFirstSuper, KeywordMessages, TheMessage, TheCascade, TheNumeral, TheElements, TheBytes, TheItems, FurtherItem, TheBlock, TheParameter, TheParameters, TheSequence, TheNames, TheStatements, BehindStatement, BehindReturn, Awaits, begin_operand, step, run, AnyArgument, BehindAnyMessage}
use Rattle.grammar_model.proofs.OneTree.{starts_Expression}
use Rattle.grammar_model.proofs.Reading.{reads, reads_alike, Takes, takes_closing, Position, InExpression, InKeyword, InBinary, operand_part, unary_part, argument_part, binary_part, cascade_part, is_told, IsLiteralStart, step-operand, step-unary, step-any_unary, step-argument, step-binary, step-keyword, cascade_part-sent, unary_end-argument, unary_end-expression, unary_end-binary, argument_end, binary_end, cascade_end, keywords_end, messages_end, statement_end, return_end, item_end, elements_end, bytes_end, items_end, statements_end, MayBeOperand, reads_name, reads_super, as_statement, as_item, as_sequence, as_statements, step-any_message, any_end}

-- what a closing mark ends
closes : (ss : Stack) (ts : List Lexeme) → first_kind ts ≡ Closes GroupEnd → run (Awaits GroupEnd ∷ ss) ts ≡ run ss (others ts)
closes ss ts e = reads (Awaits GroupEnd ∷ ss) ss ts (Closes GroupEnd) e tt refl

-- a bracket that closes a block or a byte array
closes_block : (ss : Stack) (ts : List Lexeme) → first_kind ts ≡ Closes BlockEnd → run (Awaits BlockEnd ∷ ss) ts ≡ run ss (others ts)
closes_block ss ts e = reads (Awaits BlockEnd ∷ ss) ss ts (Closes BlockEnd) e tt refl

-- a brace that closes an array
closes_brace : (ss : Stack) (ts : List Lexeme) → first_kind ts ≡ Closes BraceEnd → run (Awaits BraceEnd ∷ ss) ts ≡ run ss (others ts)
closes_brace ss ts e = reads (Awaits BraceEnd ∷ ss) ss ts (Closes BraceEnd) e tt refl

-- a numeral of a byte array
step-digits : (k : Terminal) (ss : Stack) → IsDigits k → step (TheBytes ∷ ss) k ≡ Some (TheBytes ∷ ss)
step-digits (Numeral SmallDigits t) ss h = refl
step-digits (Numeral LargeDigits t) ss h = refl
step-digits (Numeral OtherNumeral t) ss h = absurd h
step-digits k ss h = absurd h

-- the numerals of a byte array
pub reads_ByteElements : {i j : Input} {xs : LiteralsOf Text} → ByteElements Longest i xs j → (ss : Stack) → Takes ss (kind_of j) → run (TheBytes ∷ ss) i.rest ≡ run ss j.rest
reads_ByteElements {i} (OneByte {c} {t} e h d) ss k =
    reads (TheBytes ∷ ss) (TheBytes ∷ ss) i.rest (Numeral c t) e tt (ap (step (TheBytes ∷ ss)) (sym e) ∙ step-digits (kind_of i) ss h) ∙ reads_ByteElements d ss k
reads_ByteElements {i} (NoBytes n) ss k = bytes_end i.rest ss n k

-- a keyword among elements
step-key : (c : KeywordKind) (k : Text) (ss : Stack) → NoAnyKey c → step (TheElements ∷ ss) (Keyword c k) ≡ Some (TheElements ∷ ss)
step-key AnyKey k ss p = absurd p
step-key c k ss p = refl

-- a row of keywords among elements
pub reads_KeywordRow : {i j : Input} {k : Text} → KeywordRow i k j → (ss : Stack) → run (TheElements ∷ ss) i.rest ≡ run (TheElements ∷ ss) j.rest
reads_KeywordRow {i} (LastKeyword {c} {k} e q n) ss = reads _ _ i.rest (Keyword c k) e tt (step-key c k ss q)
reads_KeywordRow {i} (JoinedKeyword {c} {k} e q g d) ss = reads _ _ i.rest (Keyword c k) e tt (step-key c k ss q) ∙ reads_KeywordRow d ss

-- a binary selector among elements
step-element : (c : BinaryKind) (s : Text) (ss : Stack) → NoSign c → step (TheElements ∷ ss) (Binary c s) ≡ Some (TheElements ∷ ss)
step-element Sign s ss h = absurd h
step-element c s ss h = refl

-- how a stack begins a literal, and what is left behind it
abbrev pub BeginsLiteral : Stack → Stack → Type 0
BeginsLiteral top below = (k : Terminal) → IsLiteralStart k → step top k ≡ begin_operand k below None

-- literals begin among elements
pub elements_begin : (ss : Stack) → BeginsLiteral (TheElements ∷ ss) (TheElements ∷ ss)
elements_begin ss (Binary Sign s) h = refl
elements_begin ss (Numeral c t) h = refl
elements_begin ss (Constant l) h = refl
elements_begin ss (Opens ArrayStart) h = refl
elements_begin ss (Opens BytesStart) h = refl
elements_begin ss k h = absurd h

mutual
  -- a literal is read
  pub reads_LiteralAt : {i j : Input} {l : LiteralOf Text} → LiteralAt Longest i l j → (top below : Stack) → BeginsLiteral top below → run top i.rest ≡ run below j.rest
  reads_LiteralAt {i} (Unsigned {c} {t} e) top below b = reads top below i.rest (Numeral c t) e tt (b _ tt)
  reads_LiteralAt {i} (Negative {c} {s} {t} e f) top below b = reads top _ i.rest (Binary Sign s) e tt (b _ tt) ∙ reads (TheNumeral ∷ below) below (next i).rest (Numeral c t) f tt refl
  reads_LiteralAt {i} (Fixed {l} e) top below b = reads top below i.rest (Constant l) e tt (b _ tt)
  reads_LiteralAt {i} (Array {m} e a c) top below b =
      reads top _ i.rest (Opens ArrayStart) e tt (b _ tt) ∙ reads_Elements a (Awaits GroupEnd ∷ below) (takes_closing GroupEnd _ _ c) ∙ closes below m.rest c
  reads_LiteralAt {i} (ByteArray {m} e a c) top below b =
      reads top _ i.rest (Opens BytesStart) e tt (b _ tt) ∙ reads_ByteElements a (Awaits BlockEnd ∷ below) (takes_closing BlockEnd _ _ c) ∙ closes_block below m.rest c

  -- an element of an array, read by the machine
  pub reads_Element : {i j : Input} {l : LiteralOf Text} → Element Longest i l j → (ss : Stack) → run (TheElements ∷ ss) i.rest ≡ run (TheElements ∷ ss) j.rest
  reads_Element (LiteralElement d) ss = reads_LiteralAt d (TheElements ∷ ss) (TheElements ∷ ss) (elements_begin ss)
  reads_Element {i} (InnerArray {m} e a c) ss =
      reads _ _ i.rest (Opens Group) e tt refl ∙ reads_Elements a (Awaits GroupEnd ∷ TheElements ∷ ss) (takes_closing GroupEnd _ _ c) ∙ closes (TheElements ∷ ss) m.rest c
  reads_Element {i} (InnerBytes {m} e a c) ss =
      reads _ _ i.rest (Opens BlockStart) e tt refl ∙ reads_ByteElements a (Awaits BlockEnd ∷ TheElements ∷ ss) (takes_closing BlockEnd _ _ c) ∙ closes_block (TheElements ∷ ss) m.rest c
  reads_Element {i} (NameElement {c} {n} e) ss = reads _ _ i.rest (Name c n) e tt refl
  reads_Element (KeywordElement d) ss = reads_KeywordRow d ss
  reads_Element {i} (BinaryElement {c} {s} e h) ss = reads _ _ i.rest (Binary c s) e tt (step-element c s ss h)

  -- the elements of an array, read by the machine
  pub reads_Elements : {i j : Input} {xs : LiteralsOf Text} → Elements Longest i xs j → (ss : Stack) → Takes ss (kind_of j) → run (TheElements ∷ ss) i.rest ≡ run ss j.rest
  reads_Elements (OneElement d r) ss k = reads_Element d ss ∙ reads_Elements r ss k
  reads_Elements {i} (NoElements n) ss k = elements_end i.rest ss n k

-- periods, read by the machine
pub reads_Periods : {i j : Input} → Periods Longest i j → (ss : Stack) → run (BehindReturn ∷ ss) i.rest ≡ run ss j.rest
reads_Periods {i} (OnePeriod e d) ss = reads _ _ i.rest Period e tt refl ∙ reads_Periods d ss
reads_Periods {i} (NoPeriods h) ss = return_end i.rest ss h

-- declared names, read by the machine
pub reads_Names : {i j : Input} {ds : List Declared} → Names Longest i ds j → (ss : Stack) → run (TheNames ∷ ss) i.rest ≡ run (TheNames ∷ ss) j.rest
reads_Names {i} (OneName {c} {n} e d) ss = reads _ _ i.rest (Name c n) e tt refl ∙ reads_Names d ss
reads_Names (NoNames h) ss = refl

-- the parameters of a block, read by the machine
pub reads_Parameters : {i j : Input} {ds : List Declared} → Parameters Longest i ds j → (ss : Stack) → run (TheParameters ∷ ss) i.rest ≡ run (TheParameters ∷ ss) j.rest
reads_Parameters {i} (OneParameter {c} {n} e f d) ss = reads _ _ i.rest Colon e tt refl ∙ reads (TheParameter ∷ ss) _ (next i).rest (Name c n) f tt refl ∙ reads_Parameters d ss
reads_Parameters (NoParameters h) ss = refl

-- the first parameter of a block
pub reads_first : (ts : List Lexeme) (ss : Stack) → first_kind ts ≡ Colon → run (TheBlock ∷ ss) ts ≡ run (TheParameters ∷ ss) ts
reads_first ts ss e = reads_alike _ _ _ ts Colon e tt refl refl

-- temporaries or none, read by the machine
pub reads_Temporaries : {i j : Input} {ds : List Declared} → Temporaries Longest i ds j → (ss : Stack) → run (TheSequence ∷ ss) i.rest ≡ run (TheStatements ∷ ss) j.rest
reads_Temporaries {i} (Declares {j} {s} {t} e d f) ss = reads _ _ i.rest (Binary Bar s) e tt refl ∙ reads_Names d ss ∙ reads (TheNames ∷ ss) _ j.rest (Binary Bar t) f tt refl
reads_Temporaries {i} (DeclaresNone h) ss = as_statements i.rest ss h

-- rows end where their tokens end
pub ends_Unaries : {f : ℕ} {i j : Input} {r u : Chain} → Unaries Longest f r i u j → NoUnary (kind_of j)
ends_Unaries (OneUnary e u) = ends_Unaries u
ends_Unaries (AnyUnary e u) = ends_Unaries u
ends_Unaries (NoUnaries h) = h

-- binary messages end before other tokens
pub ends_Binaries : {f : ℕ} {i j : Input} {r u : Chain} → Binaries Longest f r i u j → NoBinary (kind_of j)
ends_Binaries (OneBinary e x u) = ends_Binaries u
ends_Binaries (NoBinaries h) = h

-- keywords end before other tokens
pub ends_Parts : {i j : Input} {k : Text} {xs : SpannedTrees} → Parts Longest i k xs j → NoKey (kind_of j)
ends_Parts (LastPart e x h) = h
ends_Parts (FurtherPart e x d) = ends_Parts d

-- any message ends before other tokens
pub ends_AnyMessage : {i j : Input} {k : Text} {xs : SpannedTrees} → AnyMessage Longest i k xs j → NoKey (kind_of j)
ends_AnyMessage (WholeMessage e f h) = h

-- a keyword message ends before other tokens
pub ends_Keywords : {f : ℕ} {i j : Input} {r u : Chain} → Keywords Longest f r i u j → NoKey (kind_of j)
ends_Keywords (OneKeywords d) = ends_Parts d
ends_Keywords (AnyKeywords d) = ends_AnyMessage d
ends_Keywords (NoKeywords h) = h

-- a keyword message and the messages of a cascade begin with these tokens
first_keyword : {i j : Input} {k : Text} {xs : SpannedTrees} → Parts Longest i k xs j → (c : KeywordKind) × (n : Text) × (kind_of i ≡ Keyword c n)
first_keyword (LastPart {c} {k} e x h) = (c, k, e)
first_keyword (FurtherPart {c} {k} e x d) = (c, k, e)

-- any message, read by the machine
reads_AnyMessage : {i j : Input} {k : Text} {xs : SpannedTrees} → AnyMessage Longest i k xs j → (top : Stack) (told : Bool) (ss : Stack) → ((n : Text) → step top (MessageMeta n) ≡ Some (AnyArgument ∷ BehindAnyMessage told ∷ ss)) → run top i.rest ≡ run (KeywordMessages told ∷ ss) j.rest
reads_AnyMessage {i} (WholeMessage {k} {n} e f h) top told ss b =
    reads top _ i.rest (MessageMeta k) e tt (b k) ∙ reads (AnyArgument ∷ BehindAnyMessage told ∷ ss) _ (next i).rest (OperandMeta AnyExpression n) f tt refl ∙ any_end (next (next i)).rest told ss h

-- unary messages, read by the machine
pub reads_Unaries : {f : ℕ} {i j : Input} {r u : Chain} → Unaries Longest f r i u j → (p : Position) (ss : Stack) → run (unary_part p r ∷ ss) i.rest ≡ run (unary_part p u ∷ ss) j.rest
reads_Unaries {f} {i} {r} (OneUnary {c} {n} e u) p ss = reads _ _ i.rest (Name c n) e tt (step-unary p r c n ss f (next i).last n NoTrees) ∙ reads_Unaries u p ss
reads_Unaries {f} {i} {r} (AnyUnary {n} e u) p ss = reads _ _ i.rest (OperandMeta AnyName n) e tt (step-any_unary p r n ss f (next i).last n NoTrees) ∙ reads_Unaries u p ss
reads_Unaries (NoUnaries h) p ss = refl

-- literals begin where an operand may
pub position_begins : (p : Position) (t : SpannedTree) (ss : Stack) → BeginsLiteral (operand_part p ∷ ss) (unary_part p (Alone t) ∷ ss)
position_begins p t ss (Binary Sign s) h = step-operand p (Binary Sign s) ss t tt
position_begins p t ss (Numeral c n) h = step-operand p (Numeral c n) ss t tt
position_begins p t ss (Constant l) h = step-operand p (Constant l) ss t tt
position_begins p t ss (Opens ArrayStart) h = step-operand p (Opens ArrayStart) ss t tt
position_begins p t ss (Opens BytesStart) h = step-operand p (Opens BytesStart) ss t tt
position_begins p t ss k h = absurd h

-- the name and the arrow of an assignment
pub reads_target : (c : NameKind) (ts : List Lexeme) (n : Text) (ss : Stack) → first_kind ts ≡ Name c n → first_kind (others ts) ≡ Assignment → run (TheExpression ∷ ss) ts ≡ run (TheExpression ∷ ss) (others (others ts))
reads_target Ordinary ts n ss e f = reads _ _ ts (Name Ordinary n) e tt refl ∙ reads (BehindName ∷ ss) _ (others ts) Assignment f tt refl
reads_target Super ts n ss e f = reads _ _ ts (Name Super n) e tt refl ∙ reads (BehindFirstSuper ∷ ss) _ (others ts) Assignment f tt refl

mutual
  -- an expression is read
  pub reads_Expression : {i j : Input} {t : SpannedTree} → Expression Longest i t j → (ss : Stack) → run (TheExpression ∷ ss) i.rest ≡ run ss j.rest
  reads_Expression {i} (Assigned {c} {n} e f d) ss = reads_target c i.rest n ss e f ∙ reads_Expression d ss
  reads_Expression {i} (Simple {l} {m} {n} {u} {b} {w} plain o us bs ks c) ss =
      reads_Operand o InExpression ss plain ∙ reads_Unaries us InExpression ss ∙ unary_end-expression l.rest u ss (ends_Unaries us) ∙ reads_Binaries bs ss ∙
      reads_Keywords ks ss (ends_Binaries bs) ∙ reads_Cascaded c ss (ends_Keywords ks)

  -- an operand, read by the machine
  pub reads_Operand : {i j : Input} {r : Chain} → Operand Longest i r j → (p : Position) (ss : Stack) → MayBeOperand p i.rest → run (operand_part p ∷ ss) i.rest ≡ run (unary_part p r ∷ ss) j.rest
  reads_Operand {i} (Variable {n} e) p ss h = reads_name p i.rest n _ ss h e
  reads_Operand {i} (SuperName {n} e) p ss h = reads_super p i.rest _ _ n ss h e
  reads_Operand {i} (MetaOperand {m} {n} e) p ss h = reads _ _ i.rest (OperandMeta m n) e tt (step-operand p (OperandMeta m n) ss _ tt)
  reads_Operand (LiteralOperand d) p ss h = reads_LiteralAt d _ _ (position_begins p _ ss)
  reads_Operand {i} (Grouped {m} e d c) p ss h =
      reads _ _ i.rest (Opens Group) e tt (step-operand p (Opens Group) ss _ tt) ∙ reads_Expression d _ ∙ closes _ m.rest c
  reads_Operand {i} (BlockOperand {m} e b c) p ss h =
      reads _ _ i.rest (Opens BlockStart) e tt (step-operand p (Opens BlockStart) ss _ tt) ∙ reads_BlockBody b _ (takes_closing BlockEnd _ _ c) ∙ closes_block _ m.rest c
  reads_Operand {i} (BraceOperand {m} e d c) p ss h =
      reads _ _ i.rest (Opens BraceStart) e tt (step-operand p (Opens BraceStart) ss _ tt) ∙ reads_Items d _ (takes_closing BraceEnd _ _ c) ∙ closes_brace _ m.rest c

  -- binary messages, read by the machine
  pub reads_Binaries : {f : ℕ} {i j : Input} {r u : Chain} → Binaries Longest f r i u j → (ss : Stack) → run (binary_part r ∷ ss) i.rest ≡ run (binary_part u ∷ ss) j.rest
  reads_Binaries {f} {i} {r} (OneBinary {m} {c} {s} {x} e a u) ss =
      reads _ _ i.rest (Binary c s) e tt (step-binary r c s ss f m.last s (one_tree x)) ∙ reads_Argument a _ ∙ reads_Binaries u ss
  reads_Binaries (NoBinaries h) ss = refl

  -- the binary messages of a keyword's argument
  pub reads_ArgumentBinaries : {f : ℕ} {i j : Input} {r u : Chain} → Binaries Longest f r i u j → (ss : Stack) → run (argument_part r ∷ ss) i.rest ≡ run (argument_part u ∷ ss) j.rest
  reads_ArgumentBinaries {f} {i} {r} (OneBinary {m} {c} {s} {x} e a u) ss =
      reads _ _ i.rest (Binary c s) e tt (step-argument r c s ss f m.last s (one_tree x)) ∙ reads_Argument a _ ∙ reads_ArgumentBinaries u ss
  reads_ArgumentBinaries (NoBinaries h) ss = refl

  -- a keyword message or none, read by the machine
  pub reads_Keywords : {f : ℕ} {i j : Input} {r u : Chain} → Keywords Longest f r i u j → (ss : Stack) → NoBinary (kind_of i) → run (binary_part r ∷ ss) i.rest ≡ run (cascade_part u ∷ ss) j.rest
  reads_Keywords {f} {i} {j} {r} (OneKeywords {s} {xs} d) ss h =
      let k = first_keyword d in
      reads_alike (binary_part r ∷ ss) (KeywordMessages (is_told r) ∷ ss) _ i.rest (Keyword k.0 k.1) k.2 tt (step-keyword r k.0 k.1 ss) refl ∙ reads_Parts d (is_told r) ss ∙
      ap (λ p. run (p ∷ ss) j.rest) (sym (cascade_part-sent f j.last r s xs))
  reads_Keywords {f} {j} {r} (AnyKeywords {s} {xs} d) ss h =
      reads_AnyMessage d (binary_part r ∷ ss) (is_told r) ss (λ n. step-any_message r n ss) ∙ ap (λ p. run (p ∷ ss) j.rest) (sym (cascade_part-sent f j.last r s xs))
  reads_Keywords {i} {r} (NoKeywords n) ss h = binary_end i.rest r ss h n

  -- keywords with their arguments, read by the machine
  pub reads_Parts : {i j : Input} {k : Text} {xs : SpannedTrees} → Parts Longest i k xs j → (told : Bool) (ss : Stack) → run (KeywordMessages told ∷ ss) i.rest ≡ run (KeywordMessages told ∷ ss) j.rest
  reads_Parts {i} (LastPart {c} {k} e x h) told ss = reads _ _ i.rest (Keyword c k) e tt refl ∙ reads_KeywordArgument x _
  reads_Parts {i} (FurtherPart {c} {k} e x d) told ss = reads _ _ i.rest (Keyword c k) e tt refl ∙ reads_KeywordArgument x _ ∙ reads_Parts d told ss

  -- the argument of a binary message, read by the machine
  pub reads_Argument : {i j : Input} {t : SpannedTree} → Argument Longest i t j → (ss : Stack) → run (TheArgument ∷ ss) i.rest ≡ run ss j.rest
  reads_Argument {j} (BinaryArgument {u} o us w) ss = reads_Operand o InBinary ss tt ∙ reads_Unaries us InBinary ss ∙ unary_end-binary j.rest u ss w (ends_Unaries us)

  -- the argument of a keyword, read by the machine
  pub reads_KeywordArgument : {i j : Input} {t : SpannedTree} → KeywordArgument Longest i t j → (ss : Stack) → run (TheKeywordArgument ∷ ss) i.rest ≡ run ss j.rest
  reads_KeywordArgument {j} (ArgumentOfKeyword {n} {u} {b} o us bs w) ss =
      reads_Operand o InKeyword ss tt ∙ reads_Unaries us InKeyword ss ∙ unary_end-argument n.rest u ss (ends_Unaries us) ∙ reads_ArgumentBinaries bs ss ∙ argument_end j.rest b ss w (ends_Binaries bs)

  -- a cascade or none, read by the machine
  pub reads_Cascaded : {r : Chain} {i j : Input} {t : SpannedTree} → Cascaded Longest r i t j → (ss : Stack) → NoKey (kind_of i) → run (cascade_part r ∷ ss) i.rest ≡ run ss j.rest
  reads_Cascaded {r} {i} (NoCascade w h) ss k = cascade_end i.rest r ss w k h
  reads_Cascaded {i} (OneCascade e d) ss k = reads_alike _ (TheCascade ∷ ss) _ i.rest Semicolon e tt refl refl ∙ reads_Messages d ss

  -- the messages of a cascade, read by the machine
  pub reads_Messages : {i j : Input} {ms : SpannedMessages} → Messages Longest i ms j → (ss : Stack) → run (TheCascade ∷ ss) i.rest ≡ run ss j.rest
  reads_Messages {i} (OneMessage e m d) ss = reads _ _ i.rest Semicolon e tt refl ∙ reads_Message m ss ∙ reads_Messages d ss
  reads_Messages {i} (LastMessage h) ss = messages_end i.rest ss h

  -- one message of a cascade, read by the machine
  pub reads_Message : {i j : Input} {k : Text} {xs : SpannedTrees} → Message Longest i k xs j → (ss : Stack) → run (TheMessage ∷ ss) i.rest ≡ run (TheCascade ∷ ss) j.rest
  reads_Message {i} (UnaryMessage {c} {n} e) ss = reads _ _ i.rest (Name c n) e tt refl
  reads_Message {i} (AnyUnaryMessage {n} e) ss = reads _ _ i.rest (OperandMeta AnyName n) e tt refl
  reads_Message {i} (BinaryMessage {c} {s} e a) ss = reads _ _ i.rest (Binary c s) e tt refl ∙ reads_Argument a _
  reads_Message {i} {j} (KeywordMessage d) ss =
      let k = first_keyword d in
      reads_alike _ (KeywordMessages true ∷ ss) _ i.rest (Keyword k.0 k.1) k.2 tt refl refl ∙ reads_Parts d true ss ∙ keywords_end j.rest ss (ends_Parts d)
  reads_Message {j} (AnyKeywordMessage d) ss = reads_AnyMessage d (TheMessage ∷ ss) true ss (λ n. refl) ∙ keywords_end j.rest ss (ends_AnyMessage d)

  -- the items of a brace array, read by the machine
  pub reads_Items : {i j : Input} {ts : SpannedTrees} → Items Longest i ts j → (ss : Stack) → Takes ss (kind_of j) → run (TheItems ∷ ss) i.rest ≡ run ss j.rest
  reads_Items {i} (NoItems h) ss k = items_end i.rest ss h k
  reads_Items {i} (OneItem d r) ss k = as_item i.rest ss (starts_Expression d) ∙ reads_Expression d (FurtherItem ∷ ss) ∙ reads_FurtherItems r ss k

  -- what stands behind an item, read by the machine
  pub reads_FurtherItems : {i j : Input} {ts : SpannedTrees} → FurtherItems Longest i ts j → (ss : Stack) → Takes ss (kind_of j) → run (FurtherItem ∷ ss) i.rest ≡ run ss j.rest
  reads_FurtherItems {i} (NextItem e d) ss k = reads _ _ i.rest Period e tt refl ∙ reads_Items d ss k
  reads_FurtherItems {i} (LastItem h) ss k = item_end i.rest ss h

  -- what stands between the brackets of a block, read by the machine
  pub reads_BlockBody : {i j : Input} {ps ds : List Declared} {steps : SpannedStatements} → BlockBody Longest i ps ds steps j → (ss : Stack) → Takes (Awaits BlockEnd ∷ ss) (kind_of j) → run (TheBlock ∷ Awaits BlockEnd ∷ ss) i.rest ≡ run (Awaits BlockEnd ∷ ss) j.rest
  reads_BlockBody {i} (WithoutParameters h s) ss k = as_sequence i.rest _ h ∙ reads_Sequence s _ k
  reads_BlockBody {i} {j} (ParametersAlone e p c) ss k = reads_first i.rest _ e ∙ reads_Parameters p _ ∙ reads_alike _ _ _ j.rest (Closes BlockEnd) c tt refl refl
  reads_BlockBody {i} (WithParameters {m} {s = bar} e p c s) ss k = reads_first i.rest _ e ∙ reads_Parameters p _ ∙ reads (TheParameters ∷ Awaits BlockEnd ∷ ss) _ m.rest (Binary Bar bar) c tt refl ∙ reads_Sequence s _ k

  -- a sequence, read by the machine
  pub reads_Sequence : {i j : Input} {ds : List Declared} {steps : SpannedStatements} → Sequence Longest i ds steps j → (ss : Stack) → Takes ss (kind_of j) → run (TheSequence ∷ ss) i.rest ≡ run ss j.rest
  reads_Sequence (Sequenced d b) ss k = reads_Temporaries d ss ∙ reads_Statements b ss k

  -- statements, read by the machine
  pub reads_Statements : {i j : Input} {steps : SpannedStatements} → Statements Longest i steps j → (ss : Stack) → Takes ss (kind_of j) → run (TheStatements ∷ ss) i.rest ≡ run ss j.rest
  reads_Statements {i} (BlankPeriod e b) ss k = reads _ _ i.rest Period e tt refl ∙ reads_Statements b ss k
  reads_Statements {i} (NoMore h) ss k = statements_end i.rest ss h k
  reads_Statements {i} (Returned e d f) ss k = reads _ _ i.rest Caret e tt refl ∙ reads_Expression d (BehindReturn ∷ ss) ∙ reads_Finish f ss
  reads_Statements {i} (AnyStatement {n} e a) ss k = reads _ _ i.rest (StatementMeta n) e tt refl ∙ reads_After a ss k
  reads_Statements {i} (OneStatement d a) ss k = as_statement i.rest ss (starts_Expression d) ∙ reads_Expression d (BehindStatement ∷ ss) ∙ reads_After a ss k

  -- what stands behind a statement, read by the machine
  pub reads_After : {i j : Input} {c : Notes} {steps : SpannedStatements} → After Longest i c steps j → (ss : Stack) → Takes ss (kind_of j) → run (BehindStatement ∷ ss) i.rest ≡ run ss j.rest
  reads_After {i} (Ended e b) ss k = reads _ _ i.rest Period e tt refl ∙ reads_Statements b ss k
  reads_After {i} (Unended h) ss k = statement_end i.rest ss h

  -- what stands behind a return, read by the machine
  pub reads_Finish : {i j : Input} {c : Notes} → Finish Longest i c j → (ss : Stack) → run (BehindReturn ∷ ss) i.rest ≡ run ss j.rest
  reads_Finish {i} (EndedReturn e p) ss = reads _ _ i.rest Period e tt refl ∙ reads_Periods p ss
  reads_Finish {i} (UnendedReturn h) ss = return_end i.rest ss h
