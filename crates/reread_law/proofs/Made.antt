-- What the grammar spells on well-formed tokens is a good tree.
use Rattle.std.proofs.Common.{◌≡◌, ℕ, Bool, true, false, List, [], ◌∷◌, ◌++◌, refl, sym, subst}
use Rattle.std.specs.Prelude.{if◌then◌else◌, nat_le}
use Rattle.std.specs.List.{list_all}
use Rattle.std.specs.Str.Parse.{digits_value}
use Rattle.token_model.specs.Bytes.{is_digit}
use Rattle.tree_model.specs.Tree.{Notes, LiteralOf, number, str, symbol, char, array, bytes, word, LiteralsOf, TreeOf, var, return, StatementsOf}
use Rattle.grammar_model.specs.Terminal.{Text, SmallDigits, LargeDigits, OtherNumeral, Numeral, Constant, Semicolon}
use Rattle.grammar_model.specs.Words.{is_literal_word}
use Rattle.grammar_model.specs.Input.{Input, kind_of, next}
use Rattle.grammar_model.specs.Spanned.{Declared, SpannedTree, SpannedTrees, NoTrees, one_tree, SpannedMessages, MoreMessages, SpannedStatements, names_of, plain_tree, plain_trees, plain_messages, plain_statements}
use Rattle.grammar_model.specs.Chain.{Chain, Waiting, Alone, Told, whole, sent, IsWhole}
use Rattle.grammar_model.specs.Ahead.{Longest, IsDigits, NoSemicolon}
use Rattle.grammar_model.specs.Literals.{word_or_symbol, KeywordRow, LastKeyword, JoinedKeyword, ByteElements, OneByte, NoBytes, LiteralAt, Unsigned, Negative, Fixed, Array, ByteArray, Element, LiteralElement, InnerArray, InnerBytes, NameElement, KeywordElement, BinaryElement, Elements, OneElement, NoElements}
use Rattle.grammar_model.specs.Grammar.{Periods, OnePeriod, NoPeriods, Names, OneName, NoNames, Parameters, OneParameter, NoParameters, Temporaries, Declares, DeclaresNone, Expression, Assigned, Simple, Operand, Variable, SuperName, LiteralOperand, Grouped, BlockOperand, BraceOperand, Unaries, OneUnary, NoUnaries, Binaries, OneBinary, NoBinaries, Keywords, OneKeywords, NoKeywords, Parts, LastPart, FurtherPart, Argument, BinaryArgument, KeywordArgument, ArgumentOfKeyword, Cascaded, NoCascade, OneCascade, Messages, OneMessage, LastMessage, Message, UnaryMessage, BinaryMessage, KeywordMessage, Items, NoItems, OneItem, FurtherItems, NextItem, LastItem, BlockBody, WithoutParameters, ParametersAlone, WithParameters, Sequence, Sequenced, Statements, BlankPeriod, NoMore, Returned, OneStatement, After, Ended, Unended, Finish, EndedReturn, UnendedReturn, WholeMessage, MetaOperand, AnyUnary, AnyKeywords, AnyUnaryMessage, AnyKeywordMessage, AnyStatement}
use Rattle.reread_law.specs.WellFormed.{IsWord, IsUnsigned, Plain, Minus, IsNumber, AllNotes, AllWords, AreBytes, NoneLeft, OneMore, WellFormedLiteral, WellFormedLiterals, NoWord, AreParts, LastOne, OneBefore, FitsArguments, FitsNone, FitsOne, FitsParts, IsValue, NoReturn, IsStatement, AreTwo, WellFormed, WellFormedTrees, WellFormedMessages, WellFormedStatements}
use Rattle.reread_law.proofs.Sound.{GoodTerminal, Sound, sound_kind, sound_next, sound_clear, sound_back}

-- a row of keywords leaves the rest well formed
made_KeywordRow : {i j : Input} {k : Text} → KeywordRow i k j → Sound i → Sound j
made_KeywordRow (LastKeyword e q n) s = sound_next s
made_KeywordRow (JoinedKeyword e q n r) s = made_KeywordRow r (sound_next s)

-- a numeral of digits alone has digits alone
digits_all : (t : Text) (b : Bool) → list_all is_digit t ≡ b → IsDigits (Numeral (if b then (if nat_le (digits_value 10 t) 65535 then SmallDigits else LargeDigits) else OtherNumeral) t) → list_all is_digit t ≡ true
digits_all t true e h = e
digits_all t false e h = absurd h

-- byte arrays
made_Bytes : {i j : Input} {ls : LiteralsOf Text} → ByteElements Longest i ls j → Sound i → AreBytes ls × Sound j
made_Bytes (OneByte {c} {t} e d r) s =
    let g = sound_kind s e in
    let later = made_Bytes r (sound_next s) in
    (OneMore g.0 (digits_all t (list_all is_digit t) refl (subst (λ c. IsDigits (Numeral c t)) g.1 (subst IsDigits e d))) later.0, later.1)
made_Bytes (NoBytes n) s = (NoneLeft, s)

-- a string, a character or a symbol
constant_good : (l : LiteralOf Text) → GoodTerminal (Constant l) → WellFormedLiteral l × NoWord l
constant_good (str t) h = (tt, tt)
constant_good (symbol t) h = (tt, tt)
constant_good (char b) h = (tt, tt)
constant_good (number t) h = absurd h
constant_good (array ls) h = absurd h
constant_good (bytes ls) h = absurd h
constant_good (word n) h = absurd h

-- a word in an array
word_good : (n : Text) → IsWord n → WellFormedLiteral (word_or_symbol n)
word_good n h = go (is_literal_word n) refl
  where
    go : (b : Bool) → is_literal_word n ≡ b → WellFormedLiteral (if b then word n else symbol n)
    go true e = (h, e)
    go false e = tt

-- a sign before a numeral
minus_good : (s t : Text) → s ≡ 45 ∷ [] → IsUnsigned t → IsNumber (s ++ t)
minus_good s t e h = subst (λ s. IsNumber (s ++ t)) (sym e) (Minus h)

mutual
  -- a literal
  made_LiteralAt : {i j : Input} {l : LiteralOf Text} → LiteralAt Longest i l j → Sound i → WellFormedLiteral l × NoWord l × Sound j
  made_LiteralAt (Unsigned e) s = (Plain (sound_kind s e).0, tt, sound_next s)
  made_LiteralAt (Negative {s = m} {t} e f) s = (minus_good m t ((sound_kind s e).1 refl) (sound_kind (sound_next s) f).0, tt, sound_next (sound_next s))
  made_LiteralAt (Fixed {l} e) s = let c = constant_good l (sound_kind s e) in (c.0, c.1, sound_next s)
  made_LiteralAt (Array e r c) s = let g = made_Elements r (sound_next s) in (g.0, tt, sound_next g.1)
  made_LiteralAt (ByteArray e r c) s = let g = made_Bytes r (sound_next s) in (g.0, tt, sound_next g.1)

  -- an element of an array
  made_Element : {i j : Input} {l : LiteralOf Text} → Element Longest i l j → Sound i → WellFormedLiteral l × Sound j
  made_Element (LiteralElement d) s = let g = made_LiteralAt d s in (g.0, g.2)
  made_Element (InnerArray e r c) s = let g = made_Elements r (sound_next s) in (g.0, sound_next g.1)
  made_Element (InnerBytes e r c) s = let g = made_Bytes r (sound_next s) in (g.0, sound_next g.1)
  made_Element (NameElement {n} e) s = (word_good n (sound_kind s e).0, sound_next s)
  made_Element (KeywordElement r) s = (tt, made_KeywordRow r s)
  made_Element (BinaryElement e n) s = (tt, sound_next s)

  -- elements
  made_Elements : {i j : Input} {ls : LiteralsOf Text} → Elements Longest i ls j → Sound i → WellFormedLiterals ls × Sound j
  made_Elements (OneElement x r) s = let g = made_Element x s in let h = made_Elements r g.1 in ((g.0, h.0), h.1)
  made_Elements (NoElements n) s = (tt, s)

-- periods
made_Periods : {i j : Input} → Periods Longest i j → Sound i → Sound j
made_Periods (OnePeriod e r) s = made_Periods r (sound_next s)
made_Periods (NoPeriods n) s = s

-- declared names
pub made_Names : {i j : Input} {ds : List Declared} → Names Longest i ds j → Sound i → AllWords (names_of ds) × Sound j
made_Names (OneName e r) s = let g = made_Names r (sound_next s) in (((sound_kind s e).0, g.0), g.1)
made_Names (NoNames n) s = (tt, s)

-- parameters
made_Parameters : {i j : Input} {ds : List Declared} → Parameters Longest i ds j → Sound i → AllWords (names_of ds) × Sound j
made_Parameters (OneParameter e f r) s =
    let g = made_Parameters r (sound_next (sound_next s)) in (((sound_kind (sound_next s) f).0, g.0), g.1)
made_Parameters (NoParameters n) s = (tt, s)

-- temporaries
made_Temporaries : {i j : Input} {ds : List Declared} → Temporaries Longest i ds j → Sound i → AllWords (names_of ds) × Sound j
made_Temporaries (Declares e r f) s = let g = made_Names r (sound_next s) in (g.0, sound_next g.1)
made_Temporaries (DeclaresNone n) s = (tt, s)

-- a receiver and its messages
abbrev GoodChain : Chain → Type 0
GoodChain (Waiting f e n) = IsWord n
GoodChain (Alone t) = WellFormed (plain_tree t) × IsValue (plain_tree t)
GoodChain (Told f e r s xs) = WellFormed (plain_tree r) × IsValue (plain_tree r) × FitsArguments s (plain_trees xs) × WellFormedTrees (plain_trees xs)

-- what has a value is no return
pub value_returns : (t : TreeOf Text) → IsValue t → NoReturn t
value_returns (return t) h = h
value_returns (var n) h = tt
value_returns t h = tt

-- one more message
sent_good : (f e : ℕ) (r : Chain) (s : Text) (xs : SpannedTrees) → GoodChain r → FitsArguments s (plain_trees xs) → WellFormedTrees (plain_trees xs) → GoodChain (sent f e r s xs)
sent_good f e (Waiting g h n) s xs c fits args = ((c, tt, fits, args), tt)
sent_good f e (Alone t) s xs c fits args = (c.0, c.1, fits, args)
sent_good f e (Told g h r t ys) s xs c fits args = ((c.0, value_returns (plain_tree r) c.1, c.2, c.3), tt, fits, args)

-- the tree so far
whole_good : (c : Chain) → IsWhole c → GoodChain c → WellFormed (plain_tree (whole c)) × IsValue (plain_tree (whole c))
whole_good (Waiting f e n) w c = absurd w
whole_good (Alone t) w c = c
whole_good (Told f e r s xs) w c = ((c.0, value_returns (plain_tree r) c.1, c.2, c.3), tt)

-- a semicolon brings one message more
more_after : (s : Text) (xs : SpannedTrees) {i j : Input} {ms : SpannedMessages} → Messages Longest i ms j → kind_of i ≡ Semicolon → AreTwo (plain_messages (MoreMessages s xs ms))
more_after s xs (OneMessage e m d) is = tt
more_after s xs (LastMessage n) is = absurd (subst NoSemicolon is n)

-- a statement is no return where it is an expression
expression_statement : (t : TreeOf Text) (ss : StatementsOf Text) → IsValue t → IsStatement t ss
expression_statement (return t) ss h = absurd h
expression_statement (var n) ss h = h
expression_statement t ss h = h

mutual
  -- an expression
  pub made_Expression : {i j : Input} {t : SpannedTree} → Expression Longest i t j → Sound i → WellFormed (plain_tree t) × IsValue (plain_tree t) × Sound j
  made_Expression (Assigned e f d) s =
      let g = made_Expression d (sound_next (sound_next s)) in (((sound_kind s e).0, g.0, g.1), tt, g.2)
  made_Expression (Simple plain o u b k c) s =
      let first = made_Operand o s in
      let second = made_Unaries u first.0 first.1 in
      let third = made_Binaries b second.0 second.1 in
      let fourth = made_Keywords k third.0 third.1 in
      made_Cascaded c fourth.0 fourth.1

  -- an operand
  made_Operand : {i j : Input} {r : Chain} → Operand Longest i r j → Sound i → GoodChain r × Sound j
  made_Operand (Variable e) s = let g = sound_kind s e in ((g.0, g.1 refl), sound_next s)
  made_Operand (SuperName e) s = ((sound_kind s e).0, sound_next s)
  made_Operand (MetaOperand e) s = absurd (sound_kind s e)
  made_Operand (LiteralOperand d) s = let g = made_LiteralAt d s in (((g.0, g.1), tt), g.2)
  made_Operand (Grouped e d c) s = let g = made_Expression d (sound_next s) in ((g.0, g.1), sound_next g.2)
  made_Operand (BlockOperand e b c) s =
      let g = made_BlockBody b (sound_clear (sound_next s)) in
      let after = sound_next g.3 in
      (((g.0, g.1, g.2, after.held), tt), sound_back (sound_next s) after)
  made_Operand (BraceOperand e d c) s = let g = made_Items d (sound_next s) in ((g.0, tt), sound_next g.1)

  -- unary messages
  made_Unaries : {f : ℕ} {i j : Input} {r u : Chain} → Unaries Longest f r i u j → GoodChain r → Sound i → GoodChain u × Sound j
  made_Unaries {f} {i} {r} (OneUnary {n} e d) c s = made_Unaries d (sent_good f (next i).last r n NoTrees c (FitsNone (sound_kind s e).0) tt) (sound_next s)
  made_Unaries (AnyUnary e d) c s = absurd (sound_kind s e)
  made_Unaries (NoUnaries n) c s = (c, s)

  -- binary messages
  made_Binaries : {f : ℕ} {i j : Input} {r u : Chain} → Binaries Longest f r i u j → GoodChain r → Sound i → GoodChain u × Sound j
  made_Binaries {f} {i} {r} (OneBinary {m} {s = p} {x} e y d) c s =
      let g = made_Argument y (sound_next s) in
      made_Binaries d (sent_good f m.last r p (one_tree x) c (FitsOne (sound_kind s e).0) (g.0, g.1, tt)) g.2
  made_Binaries (NoBinaries n) c s = (c, s)

  -- a keyword message
  made_Keywords : {f : ℕ} {i j : Input} {r u : Chain} → Keywords Longest f r i u j → GoodChain r → Sound i → GoodChain u × Sound j
  made_Keywords {f} {i} {j} {r} (OneKeywords {s = p} {xs} d) c s =
      let g = made_Parts d s in (sent_good f j.last r p xs c (FitsParts g.0) g.1, g.2)
  made_Keywords (AnyKeywords (WholeMessage e f n)) c s = absurd (sound_kind s e)
  made_Keywords (NoKeywords n) c s = (c, s)

  -- keywords with their arguments
  made_Parts : {i j : Input} {s : Text} {xs : SpannedTrees} → Parts Longest i s xs j → Sound i → AreParts s (plain_trees xs) × WellFormedTrees (plain_trees xs) × Sound j
  made_Parts (LastPart e x n) s = let g = made_KeywordArgument x (sound_next s) in (LastOne (sound_kind s e), (g.0, g.1, tt), g.2)
  made_Parts (FurtherPart e x d) s =
      let g = made_KeywordArgument x (sound_next s) in
      let h = made_Parts d g.2 in
      (OneBefore (sound_kind s e) h.0, (g.0, g.1, h.1), h.2)

  -- the argument of a binary message
  made_Argument : {i j : Input} {t : SpannedTree} → Argument Longest i t j → Sound i → WellFormed (plain_tree t) × IsValue (plain_tree t) × Sound j
  made_Argument (BinaryArgument {u} o d w) s =
      let first = made_Operand o s in
      let second = made_Unaries d first.0 first.1 in
      let g = whole_good u w second.0 in
      (g.0, g.1, second.1)

  -- the argument of a keyword
  made_KeywordArgument : {i j : Input} {t : SpannedTree} → KeywordArgument Longest i t j → Sound i → WellFormed (plain_tree t) × IsValue (plain_tree t) × Sound j
  made_KeywordArgument (ArgumentOfKeyword {b} o d c w) s =
      let first = made_Operand o s in
      let second = made_Unaries d first.0 first.1 in
      let third = made_Binaries c second.0 second.1 in
      let g = whole_good b w third.0 in
      (g.0, g.1, third.1)

  -- a cascade or none
  made_Cascaded : {r : Chain} {i j : Input} {t : SpannedTree} → Cascaded Longest r i t j → GoodChain r → Sound i → WellFormed (plain_tree t) × IsValue (plain_tree t) × Sound j
  made_Cascaded (NoCascade {r} w n) c s = let g = whole_good r w c in (g.0, g.1, s)
  made_Cascaded (OneCascade {s = p} {xs} e d) c s =
      let g = made_Messages d s in ((c.0, c.1, more_after p xs d e, (c.2, c.3, g.0)), tt, g.1)

  -- the messages of a cascade
  made_Messages : {i j : Input} {ms : SpannedMessages} → Messages Longest i ms j → Sound i → WellFormedMessages (plain_messages ms) × Sound j
  made_Messages (OneMessage e m d) s =
      let g = made_Message m (sound_next s) in
      let h = made_Messages d g.2 in
      ((g.0, g.1, h.0), h.1)
  made_Messages (LastMessage n) s = (tt, s)

  -- one message of a cascade
  made_Message : {i j : Input} {s : Text} {xs : SpannedTrees} → Message Longest i s xs j → Sound i → FitsArguments s (plain_trees xs) × WellFormedTrees (plain_trees xs) × Sound j
  made_Message (UnaryMessage e) s = (FitsNone (sound_kind s e).0, tt, sound_next s)
  made_Message (BinaryMessage e x) s = let g = made_Argument x (sound_next s) in (FitsOne (sound_kind s e).0, (g.0, g.1, tt), g.2)
  made_Message (AnyUnaryMessage e) s = absurd (sound_kind s e)
  made_Message (AnyKeywordMessage (WholeMessage e f n)) s = absurd (sound_kind s e)
  made_Message (KeywordMessage d) s = let g = made_Parts d s in (FitsParts g.0, g.1, g.2)

  -- the items of a brace array
  made_Items : {i j : Input} {ts : SpannedTrees} → Items Longest i ts j → Sound i → WellFormedTrees (plain_trees ts) × Sound j
  made_Items (NoItems n) s = (tt, s)
  made_Items (OneItem d r) s =
      let g = made_Expression d s in
      let h = made_FurtherItems r g.2 in
      ((g.0, g.1, h.0), h.1)

  -- what stands behind an item
  made_FurtherItems : {i j : Input} {ts : SpannedTrees} → FurtherItems Longest i ts j → Sound i → WellFormedTrees (plain_trees ts) × Sound j
  made_FurtherItems (NextItem e d) s = made_Items d (sound_next s)
  made_FurtherItems (LastItem n) s = (tt, s)

  -- what stands between the brackets of a block
  made_BlockBody : {i j : Input} {ps ds : List Declared} {ss : SpannedStatements} → BlockBody Longest i ps ds ss j → Sound i → AllWords (names_of ps) × AllWords (names_of ds) × WellFormedStatements (plain_statements ss) × Sound j
  made_BlockBody (WithoutParameters n d) s = let g = made_Sequence d s in (tt, g.0, g.1, g.2)
  made_BlockBody (ParametersAlone e p c) s = let g = made_Parameters p s in (g.0, tt, tt, g.1)
  made_BlockBody (WithParameters e p c d) s =
      let g = made_Parameters p s in
      let h = made_Sequence d (sound_next g.1) in
      (g.0, h.0, h.1, h.2)

  -- a sequence
  pub made_Sequence : {i j : Input} {ds : List Declared} {ss : SpannedStatements} → Sequence Longest i ds ss j → Sound i → AllWords (names_of ds) × WellFormedStatements (plain_statements ss) × Sound j
  made_Sequence (Sequenced t b) s =
      let g = made_Temporaries t s in
      let h = made_Statements b g.1 in
      (g.0, h.0, h.1)

  -- statements
  pub made_Statements : {i j : Input} {ss : SpannedStatements} → Statements Longest i ss j → Sound i → WellFormedStatements (plain_statements ss) × Sound j
  made_Statements (BlankPeriod e b) s = made_Statements b (sound_next s)
  made_Statements (NoMore n) s = (tt, s)
  made_Statements (Returned e d f) s =
      let g = made_Expression d (sound_next s) in
      let h = made_Finish f g.2 in
      ((h.0, (g.0, g.1), tt, tt), h.1)
  made_Statements (AnyStatement e a) s = absurd (sound_kind s e)
  made_Statements (OneStatement {t} {ss} d a) s =
      let g = made_Expression d s in
      let h = made_After a g.2 in
      ((h.0, g.0, expression_statement (plain_tree t) (plain_statements ss) g.1, h.1), h.2)

  -- what stands behind a statement
  made_After : {i j : Input} {n : Notes} {ss : SpannedStatements} → After Longest i n ss j → Sound i → AllNotes n × WellFormedStatements (plain_statements ss) × Sound j
  made_After (Ended e b) s =
      let after = sound_next s in
      let g = made_Statements b (sound_clear after) in
      (after.held, g.0, g.1)
  made_After (Unended n) s = (s.held, tt, sound_clear s)

  -- what stands behind a return
  made_Finish : {i j : Input} {n : Notes} → Finish Longest i n j → Sound i → AllNotes n × Sound j
  made_Finish (EndedReturn e p) s = let after = sound_next s in (after.held, made_Periods p (sound_clear after))
  made_Finish (UnendedReturn n) s = (s.held, sound_clear s)
