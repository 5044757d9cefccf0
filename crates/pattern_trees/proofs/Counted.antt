-- As many metavariables stand in what tokens spell as the tokens have places for.
use Rattle.std.proofs.Common.{◌≡◌, ℕ, suc, ◌+◌, true, false, append-nil, List, [], ◌∷◌, length, map, refl, sym, ap, ◌∙◌, arith}
use Rattle.std.proofs.lemmas.List.{length-append}
use Rattle.tree_model.specs.Tree.{Notes, LiteralOf, LiteralsOf}
use Rattle.text_model.specs.Pieces.{keywords_of}
use Rattle.grammar_model.specs.Terminal.{Text, KeywordKind, AnyKeyword, PrimitiveKeyword, AnyKey, Bar, Sign, OperandMark, Ordinary, Super, Group, BlockStart, BraceStart, ArrayStart, BytesStart, GroupEnd, BlockEnd, BraceEnd, Name, Keyword, Binary, Numeral, Constant, Opens, Closes, Assignment, Colon, Semicolon, Period, Caret, OperandMeta, AnyName, AnyLiteral, AnyExpression, StatementMeta, MessageMeta}
use Rattle.grammar_model.specs.Input.{Lexeme, Input, from_of, next, first_kind, others}
use Rattle.grammar_model.specs.Spanned.{Declared, SpannedTree, Var, Send, Cascade, Return, SpannedTrees, NoTrees, MoreTrees, one_tree, SpannedMessages, MoreMessages, SpannedStatements, NoStatements, MoreStatements, plain_tree, plain_trees, plain_messages, plain_statements}
use Rattle.grammar_model.specs.Chain.{Chain, Waiting, Alone, Told, whole, sent}
use Rattle.grammar_model.specs.Ahead.{Longest}
use Rattle.grammar_model.specs.Literals.{NoAnyKey, KeywordRow, LastKeyword, JoinedKeyword, ByteElements, OneByte, NoBytes, LiteralAt, Unsigned, Negative, Fixed, Array, ByteArray, Element, LiteralElement, InnerArray, InnerBytes, NameElement, KeywordElement, BinaryElement, Elements, OneElement, NoElements}
use Rattle.grammar_model.specs.Grammar.{Temporaries, Periods, OnePeriod, NoPeriods, Names, OneName, NoNames, Parameters, OneParameter, NoParameters, Declares, DeclaresNone, Expression, Assigned, Simple, Operand, Variable, SuperName, LiteralOperand, Grouped, BlockOperand, BraceOperand, Unaries, OneUnary, NoUnaries, Binaries, OneBinary, NoBinaries, Keywords, OneKeywords, NoKeywords, Parts, LastPart, FurtherPart, Argument, BinaryArgument, KeywordArgument, ArgumentOfKeyword, Cascaded, NoCascade, OneCascade, Messages, OneMessage, LastMessage, Message, UnaryMessage, BinaryMessage, KeywordMessage, Items, NoItems, OneItem, FurtherItems, NextItem, LastItem, BlockBody, WithoutParameters, ParametersAlone, WithParameters, Sequence, Sequenced, Statements, BlankPeriod, NoMore, Returned, OneStatement, After, Ended, Unended, Finish, EndedReturn, UnendedReturn, MetaOperand, AnyUnary, AnyUnaryMessage, AnyStatement, AnyMessage, WholeMessage, AnyKeywords, AnyKeywordMessage}
use Rattle.pattern_model.specs.Patterns.{KeywordLike, PatternOf, PatternsOf, no_patterns, more_patterns, metas, trees_metas, metas_in_turn, messages_metas, statements_metas, keyword_metas, message_metas}
use Rattle.pattern_model.specs.Spelled.{selector_like, arguments_like, keyword_like, is_meta, pattern_of, patterns_in, messages_in, statements_in}
use Rattle.grammar_model.specs.Whole.{IsPatternText}
use Rattle.pattern_trees.specs.Faults.{meta_places}
use Rattle.pattern_trees.proofs.TokenTexts.{HasText, HaveTexts}
use Rattle.pattern_trees.proofs.Bytes.{identifier_begins, identifier_without, operator_plain, cut_first}
use Rattle.pattern_trees.proofs.Selecting.{a_key, key_ends}
use Rattle.pattern_trees.proofs.Fitting as fit
use Rattle.pattern_trees.proofs.Counting.{none_more, one_more, places_in, passed, counted, whole_counted, key_counted, message_count, plain_count, unary_count, whole_count, row_count}

-- tokens that are no metavariables
bytes_passed : {i j : Input} {xs : LiteralsOf Text} → ByteElements Longest i xs j → places_in i.rest ≡ places_in j.rest
bytes_passed {i} (OneByte {c} {t} e x d) = passed i.rest (Numeral c t) e refl refl ∙ bytes_passed d
bytes_passed (NoBytes n) = refl

plain_keyword : (ts : List Lexeme) (c : KeywordKind) (k : Text) → first_kind ts ≡ Keyword c k → NoAnyKey c → places_in ts ≡ places_in (others ts)
plain_keyword ts AnyKeyword k e n = passed ts (Keyword AnyKeyword k) e refl refl
plain_keyword ts PrimitiveKeyword k e n = passed ts (Keyword PrimitiveKeyword k) e refl refl
plain_keyword ts AnyKey k e n = absurd n

row_passed : {i j : Input} {k : Text} → KeywordRow i k j → places_in i.rest ≡ places_in j.rest
row_passed {i} (LastKeyword {c} {k} e n j) = plain_keyword i.rest c k e n
row_passed {i} (JoinedKeyword {c} {k} e n j d) = plain_keyword i.rest c k e n ∙ row_passed d

mutual
  literal_passed : {i j : Input} {l : LiteralOf Text} → LiteralAt Longest i l j → places_in i.rest ≡ places_in j.rest
  literal_passed {i} (Unsigned {c} {t} e) = passed i.rest (Numeral c t) e refl refl
  literal_passed {i} (Negative {c} {s} {t} e f) = passed i.rest (Binary Sign s) e refl refl ∙ passed (others i.rest) (Numeral c t) f refl refl
  literal_passed {i} (Fixed {l} e) = passed i.rest (Constant l) e refl refl
  literal_passed {i} (Array {m} e a c) = passed i.rest (Opens ArrayStart) e refl refl ∙ elements_passed a ∙ passed m.rest (Closes GroupEnd) c refl refl
  literal_passed {i} (ByteArray {m} e a c) = passed i.rest (Opens BytesStart) e refl refl ∙ bytes_passed a ∙ passed m.rest (Closes BlockEnd) c refl refl

  element_passed : {i j : Input} {l : LiteralOf Text} → Element Longest i l j → places_in i.rest ≡ places_in j.rest
  element_passed (LiteralElement d) = literal_passed d
  element_passed {i} (InnerArray {m} e a c) = passed i.rest (Opens Group) e refl refl ∙ elements_passed a ∙ passed m.rest (Closes GroupEnd) c refl refl
  element_passed {i} (InnerBytes {m} e a c) = passed i.rest (Opens BlockStart) e refl refl ∙ bytes_passed a ∙ passed m.rest (Closes BlockEnd) c refl refl
  element_passed {i} (NameElement {c} {n} e) = passed i.rest (Name c n) e refl refl
  element_passed (KeywordElement d) = row_passed d
  element_passed {i} (BinaryElement {c} {s} e n) = passed i.rest (Binary c s) e refl refl

  elements_passed : {i j : Input} {xs : LiteralsOf Text} → Elements Longest i xs j → places_in i.rest ≡ places_in j.rest
  elements_passed (OneElement d r) = element_passed d ∙ elements_passed r
  elements_passed (NoElements n) = refl

periods_passed : {i j : Input} → Periods Longest i j → places_in i.rest ≡ places_in j.rest
periods_passed {i} (OnePeriod e d) = passed i.rest Period e refl refl ∙ periods_passed d
periods_passed (NoPeriods n) = refl

finish_passed : {i j : Input} {n : Notes} → Finish Longest i n j → places_in i.rest ≡ places_in j.rest
finish_passed {i} (EndedReturn e p) = passed i.rest Period e refl refl ∙ periods_passed p
finish_passed (UnendedReturn n) = refl

names_passed : {i j : Input} {ds : List Declared} → Names Longest i ds j → places_in i.rest ≡ places_in j.rest
names_passed {i} (OneName {c} {n} e d) = passed i.rest (Name c n) e refl refl ∙ names_passed d
names_passed (NoNames n) = refl

parameters_passed : {i j : Input} {ds : List Declared} → Parameters Longest i ds j → places_in i.rest ≡ places_in j.rest
parameters_passed {i} (OneParameter {c} {n} e f d) = passed i.rest Colon e refl refl ∙ passed (others i.rest) (Name c n) f refl refl ∙ parameters_passed d
parameters_passed (NoParameters n) = refl

temporaries_passed : {i j : Input} {ds : List Declared} → Temporaries Longest i ds j → places_in i.rest ≡ places_in j.rest
temporaries_passed {i} (Declares {j} {s} {t} e d f) = passed i.rest (Binary Bar s) e refl refl ∙ names_passed d ∙ passed j.rest (Binary Bar t) f refl refl
temporaries_passed (DeclaresNone n) = refl

-- how many metavariables there are
abbrev pub count : SpannedTree → ℕ
count t = length (metas (pattern_of (plain_tree t)))

abbrev pub trees_count : SpannedTrees → ℕ
trees_count ts = length (trees_metas (patterns_in (plain_trees ts)))

abbrev pub messages_count : SpannedMessages → ℕ
messages_count ms = length (messages_metas (messages_in (plain_messages ms)))

abbrev pub statements_count : SpannedStatements → ℕ
statements_count ss = length (statements_metas (statements_in (plain_statements ss)))

abbrev pub sends : Text → SpannedTrees → ℕ
sends s xs = message_count s (patterns_in (plain_trees xs))

-- sums
passed_sum : (m r i n u s : ℕ) → m ≡ r + i → i ≡ n → u ≡ r + s → s ≡ 0 → m ≡ u + n
passed_sum m r i n u s a b c d = omega (arith, a, b, c, d)

added_sum : (m r i k n u s : ℕ) → m ≡ r + i → i ≡ k + n → u ≡ r + s → s ≡ k → m ≡ u + n
added_sum m r i k n u s a b c d = omega (arith, a, b, c, d)

more_sum : (i k m l n u : ℕ) → i ≡ k + m → m ≡ l + n → u ≡ k + l → i ≡ u + n
more_sum i k m l n u a b c = omega (arith, a, b, c)

none_sum : (i n u : ℕ) → i ≡ n → u ≡ 0 → i ≡ u + n
none_sum i n u a b = omega (arith, a, b)

one_sum : (i n u : ℕ) → i ≡ suc n → u ≡ 1 → i ≡ u + n
one_sum i n u a b = omega (arith, a, b)

-- of a message that is sent, of trees, and of messages
send_count : (f e : ℕ) (r : SpannedTree) (s : Text) (xs : SpannedTrees) → count (Send f e r s xs) ≡ count r + sends s xs
send_count f e r s xs = length-append (metas (pattern_of (plain_tree r))) _

sent_count : (f e : ℕ) (r : Chain) (s : Text) (xs : SpannedTrees) → count (whole (sent f e r s xs)) ≡ count (whole r) + sends s xs
sent_count f e (Waiting g h n) s xs = send_count f e (Var g h n) s xs
sent_count f e (Alone t) s xs = send_count f e t s xs
sent_count f e (Told g h r t ys) s xs = send_count f e (Send g h r t ys) s xs

more_count : (t : SpannedTree) (ts : SpannedTrees) → trees_count (MoreTrees t ts) ≡ count t + trees_count ts
more_count t ts = length-append (metas (pattern_of (plain_tree t))) (trees_metas (patterns_in (plain_trees ts)))

one_count : (t : SpannedTree) → trees_count (one_tree t) ≡ count t
one_count t = more_count t NoTrees ∙ no_more (count t)
  where
    no_more : (n : ℕ) → n + 0 ≡ n
    no_more n = omega arith

messages_sum : (s : Text) (xs : SpannedTrees) (ms : SpannedMessages) → messages_count (MoreMessages s xs ms) ≡ sends s xs + messages_count ms
messages_sum s xs ms = length-append (message_metas (selector_like s) (trees_metas (arguments_like (selector_like s) (patterns_in (plain_trees xs)))) (metas_in_turn (arguments_like (selector_like s) (patterns_in (plain_trees xs))))) _

cascade_count : (f e : ℕ) (r : SpannedTree) (s : Text) (xs : SpannedTrees) (ms : SpannedMessages) → count (Cascade f e r (MoreMessages s xs ms)) ≡ count r + (sends s xs + messages_count ms)
cascade_count f e r s xs ms = length-append (metas (pattern_of (plain_tree r))) _ ∙ ap (λ (n : ℕ). count r + n) (messages_sum s xs ms)

cascade_sum : (m s r x i k n u : ℕ) → m ≡ s + i → s ≡ r + x → i ≡ k + n → u ≡ r + (x + k) → m ≡ u + n
cascade_sum m s r x i k n u a b c d = omega (arith, a, b, c, d)

statements_sum : (c : Notes) (f : ℕ) (t : SpannedTree) (ss : SpannedStatements) → statements_count (MoreStatements c f t ss) ≡ count t + statements_count ss
statements_sum c f t ss = length-append (metas (pattern_of (plain_tree t))) (statements_metas (statements_in (plain_statements ss)))

turn_count : (k : KeywordLike Text) (p : PatternOf Text) (ps : PatternsOf Text) (ks : List (KeywordLike Text)) → length (metas_in_turn (more_patterns p ps) (k ∷ ks)) ≡ length (keyword_metas k) + (length (metas p) + length (metas_in_turn ps ks))
turn_count k p ps ks = length-append (keyword_metas k) _ ∙ ap (λ (n : ℕ). length (keyword_metas k) + n) (length-append (metas p) (metas_in_turn ps ks))

turn_sum : (i k m x n l j u : ℕ) → i ≡ k + m → m ≡ x + n → n ≡ l + j → u ≡ k + (x + l) → i ≡ u + j
turn_sum i k m x n l j u a b c d = omega (arith, a, b, c, d)

operand_meta_text : (m : OperandMark) (n : Text) → HasText (OperandMeta m n) → is_meta n ≡ true
operand_meta_text AnyName n h = h.0
operand_meta_text AnyLiteral n h = h.0
operand_meta_text AnyExpression n h = h.0

-- of a name
plain_name : (f e : ℕ) (n : Text) → is_meta n ≡ false → count (Var f e n) ≡ 0
plain_name f e n h = rw h refl

meta_name : (f e : ℕ) (n : Text) → is_meta n ≡ true → count (Var f e n) ≡ 1
meta_name f e n h = rw h refl

any_counted : {i j : Input} {s : Text} {xs : SpannedTrees} → AnyMessage Longest i s xs j → HaveTexts i.rest → places_in i.rest ≡ sends s xs + places_in j.rest
any_counted {i} {xs = xs} (WholeMessage {k} {n} e f x) h = one_sum _ _ _ (whole_counted i.rest k n AnyExpression e f) (whole_count k _ (fit.text_of i.rest (MessageMeta k) h e))

mutual
  expression : {i j : Input} {t : SpannedTree} → Expression Longest i t j → HaveTexts i.rest → places_in i.rest ≡ count t + places_in j.rest
  expression {i} (Assigned {c} {n} e f d) h = passed i.rest (Name c n) e refl refl ∙ passed (others i.rest) Assignment f refl refl ∙ expression d (fit.two_behind i.rest h)
  expression {i} (Simple n o us bs ks c) h =
      let x = fit.operand o h in
      let y = fit.unaries us x.0 x.1 in
      let z = fit.binaries bs y.0 y.1 in
      let v = fit.keywords ks z.0 z.1 in
      cascaded c v.1 _ (keywords ks z.1 _ (binaries bs y.1 _ (unaries us x.1 _ (operand o h))))

  operand : {i j : Input} {r : Chain} → Operand Longest i r j → HaveTexts i.rest → places_in i.rest ≡ count (whole r) + places_in j.rest
  operand {i} (Variable {n} e) h = none_sum _ _ _ (passed i.rest (Name Ordinary n) e refl refl) (plain_name (from_of i) (next i).last n (identifier_begins 96 refl n (fit.text_of i.rest (Name Ordinary n) h e)))
  operand {i} (SuperName {n} e) h = none_sum _ _ _ (passed i.rest (Name Super n) e refl refl) (plain_name (from_of i) (next i).last n (identifier_begins 96 refl n (fit.text_of i.rest (Name Super n) h e)))
  operand {i} (MetaOperand {m} {n} e) h = one_sum _ _ _ (counted i.rest (OperandMeta m n) e refl refl) (meta_name (from_of i) (next i).last n (operand_meta_text m n (fit.text_of i.rest (OperandMeta m n) h e)))
  operand (LiteralOperand d) h = none_sum _ _ _ (literal_passed d) refl
  operand {i} (Grouped {m} {t} e d c) h = passed i.rest (Opens Group) e refl refl ∙ expression d (fit.behind i.rest h) ∙ ap (λ (n : ℕ). count t + n) (passed m.rest (Closes GroupEnd) c refl refl)
  operand {i} (BlockOperand {m} {ss} e b c) h = passed i.rest (Opens BlockStart) e refl refl ∙ block_body b (fit.behind i.rest h) ∙ ap (λ (n : ℕ). statements_count ss + n) (passed m.rest (Closes BlockEnd) c refl refl)
  operand {i} (BraceOperand {m} {ts} e d c) h = passed i.rest (Opens BraceStart) e refl refl ∙ items d (fit.behind i.rest h) ∙ ap (λ (n : ℕ). trees_count ts + n) (passed m.rest (Closes BraceEnd) c refl refl)

  unaries : {f : ℕ} {i j : Input} {r u : Chain} → Unaries Longest f r i u j → HaveTexts i.rest → (m : ℕ) → m ≡ count (whole r) + places_in i.rest → m ≡ count (whole u) + places_in j.rest
  unaries {f} {i} {r = r} (OneUnary {c} {n} e d) h m q =
      unaries d (fit.behind i.rest h) m
      (passed_sum m _ _ _ _ _ q (passed i.rest (Name c n) e refl refl) (sent_count f (next i).last r n NoTrees) (plain_count n no_patterns (identifier_without 96 refl refl n (fit.text_of i.rest (Name c n) h e))))
  unaries {f} {i} {r = r} (AnyUnary {n} e d) h m q =
      unaries d (fit.behind i.rest h) m
      (added_sum m _ _ 1 _ _ _ q (one_more _ _ (counted i.rest (OperandMeta AnyName n) e refl refl)) (sent_count f (next i).last r n NoTrees) (unary_count n (fit.text_of i.rest (OperandMeta AnyName n) h e)))
  unaries (NoUnaries n) h m q = q

  binaries : {f : ℕ} {i j : Input} {r u : Chain} → Binaries Longest f r i u j → HaveTexts i.rest → (m : ℕ) → m ≡ count (whole r) + places_in i.rest → m ≡ count (whole u) + places_in j.rest
  binaries {f} {i} {r = r} (OneBinary {m = k} {c} {s} {x} e y d) h m q =
      binaries d (fit.argument y (fit.behind i.rest h)).1 m
      (added_sum m _ _ (count x) _ _ _ q (passed i.rest (Binary c s) e refl refl ∙ argument y (fit.behind i.rest h)) (sent_count f k.last r s (one_tree x))
      (plain_count s (patterns_in (plain_trees (one_tree x))) (operator_plain s (fit.text_of i.rest (Binary c s) h e)) ∙ one_count x))
  binaries (NoBinaries n) h m q = q

  keywords : {f : ℕ} {i j : Input} {r u : Chain} → Keywords Longest f r i u j → HaveTexts i.rest → (m : ℕ) → m ≡ count (whole r) + places_in i.rest → m ≡ count (whole u) + places_in j.rest
  keywords {f} {j = j} {r = r} (OneKeywords {s} {xs} d) h m q = added_sum m _ _ _ _ _ _ q (parts d h) (sent_count f j.last r s xs) (row_count s (patterns_in (plain_trees xs)) (fit.parts d h).0)
  keywords {f} {j = j} {r = r} (AnyKeywords {s} {xs} d) h m q = added_sum m _ _ _ _ _ _ q (any_counted d h) (sent_count f j.last r s xs) refl
  keywords (NoKeywords n) h m q = q

  parts : {i j : Input} {s : Text} {xs : SpannedTrees} → Parts Longest i s xs j → HaveTexts i.rest → places_in i.rest ≡ length (metas_in_turn (patterns_in (plain_trees xs)) (map keyword_like (keywords_of s))) + places_in j.rest
  parts {i} {j} (LastPart {c} {k} {x} e y n) h =
      let t = fit.text_of i.rest (Keyword c k) h e in
      let cut : keywords_of k ≡ k ∷ [] = ap keywords_of (sym (append-nil k)) ∙ cut_first k [] (key_ends k (a_key c k t)) in
      let p = pattern_of (plain_tree x) in
      turn_sum _ _ _ _ _ 0 _ _ (key_counted i.rest c k e t) (keyword_argument y (fit.behind i.rest h)) (none_more (places_in j.rest) _ refl)
      (ap (λ (ks : List Text). length (metas_in_turn (more_patterns p no_patterns) (map keyword_like ks))) cut ∙ turn_count (keyword_like k) p no_patterns [])
  parts {i} (FurtherPart {c} {k} {s} {x} {xs} e y d) h =
      let t = fit.text_of i.rest (Keyword c k) h e in
      let b = fit.keyword_argument y (fit.behind i.rest h) in
      let p = pattern_of (plain_tree x) in
      turn_sum _ _ _ _ _ _ _ _ (key_counted i.rest c k e t) (keyword_argument y (fit.behind i.rest h)) (parts d b.1)
      (ap (λ (ks : List Text). length (metas_in_turn (more_patterns p (patterns_in (plain_trees xs))) (map keyword_like ks))) (cut_first k s (key_ends k (a_key c k t))) ∙ turn_count (keyword_like k) p (patterns_in (plain_trees xs)) (map keyword_like (keywords_of s)))

  argument : {i j : Input} {t : SpannedTree} → Argument Longest i t j → HaveTexts i.rest → places_in i.rest ≡ count t + places_in j.rest
  argument (BinaryArgument o us w) h = unaries us (fit.operand o h).1 _ (operand o h)

  keyword_argument : {i j : Input} {t : SpannedTree} → KeywordArgument Longest i t j → HaveTexts i.rest → places_in i.rest ≡ count t + places_in j.rest
  keyword_argument (ArgumentOfKeyword o us bs w) h =
      let x = fit.operand o h in
      binaries bs (fit.unaries us x.0 x.1).1 _ (unaries us x.1 _ (operand o h))

  cascaded : {r : Chain} {i j : Input} {t : SpannedTree} → Cascaded Longest r i t j → HaveTexts i.rest → (m : ℕ) → m ≡ count (whole r) + places_in i.rest → m ≡ count t + places_in j.rest
  cascaded (NoCascade w n) h m q = q
  cascaded {j = j} (OneCascade {f} {e = end} {r} {s} {xs} {ms} semicolon d) h m q = cascade_sum m _ _ _ _ _ _ _ q (send_count f end r s xs) (messages d h) (cascade_count f j.last r s xs ms)

  messages : {i j : Input} {ms : SpannedMessages} → Messages Longest i ms j → HaveTexts i.rest → places_in i.rest ≡ messages_count ms + places_in j.rest
  messages {i} (OneMessage {s} {xs} {ms} e y d) h =
      more_sum _ _ _ _ _ _ (passed i.rest Semicolon e refl refl ∙ message y (fit.behind i.rest h)) (messages d (fit.message y (fit.behind i.rest h)).1) (messages_sum s xs ms)
  messages (LastMessage n) h = none_sum _ _ _ refl refl

  message : {i j : Input} {s : Text} {xs : SpannedTrees} → Message Longest i s xs j → HaveTexts i.rest → places_in i.rest ≡ sends s xs + places_in j.rest
  message {i} (UnaryMessage {c} {n} e) h = none_sum _ _ _ (passed i.rest (Name c n) e refl refl) (plain_count n no_patterns (identifier_without 96 refl refl n (fit.text_of i.rest (Name c n) h e)))
  message {i} (AnyUnaryMessage {n} e) h = one_sum _ _ _ (counted i.rest (OperandMeta AnyName n) e refl refl) (unary_count n (fit.text_of i.rest (OperandMeta AnyName n) h e))
  message {i} {j} (BinaryMessage {c} {s} {x} e y) h =
      passed i.rest (Binary c s) e refl refl ∙ argument y (fit.behind i.rest h)
      ∙ ap (λ (n : ℕ). n + places_in j.rest) (sym (plain_count s (patterns_in (plain_trees (one_tree x))) (operator_plain s (fit.text_of i.rest (Binary c s) h e)) ∙ one_count x))
  message {i} {j} (KeywordMessage {s} {xs} d) h = parts d h ∙ ap (λ (n : ℕ). n + places_in j.rest) (sym (row_count s (patterns_in (plain_trees xs)) (fit.parts d h).0))
  message (AnyKeywordMessage d) h = any_counted d h

  items : {i j : Input} {ts : SpannedTrees} → Items Longest i ts j → HaveTexts i.rest → places_in i.rest ≡ trees_count ts + places_in j.rest
  items (NoItems n) h = none_sum _ _ _ refl refl
  items (OneItem {t} {ts} d r) h = more_sum _ _ _ _ _ _ (expression d h) (further_items r (fit.expression d h).1) (more_count t ts)

  further_items : {i j : Input} {ts : SpannedTrees} → FurtherItems Longest i ts j → HaveTexts i.rest → places_in i.rest ≡ trees_count ts + places_in j.rest
  further_items {i} (NextItem e d) h = passed i.rest Period e refl refl ∙ items d (fit.behind i.rest h)
  further_items (LastItem n) h = none_sum _ _ _ refl refl

  block_body : {i j : Input} {ps ds : List Declared} {ss : SpannedStatements} → BlockBody Longest i ps ds ss j → HaveTexts i.rest → places_in i.rest ≡ statements_count ss + places_in j.rest
  block_body (WithoutParameters n d) h = sequence d h
  block_body (ParametersAlone e p c) h = none_sum _ _ _ (parameters_passed p) refl
  block_body (WithParameters {m} {s} e p c d) h = parameters_passed p ∙ passed m.rest (Binary Bar s) c refl refl ∙ sequence d (fit.behind m.rest (fit.parameters_rest p h))

  sequence : {i j : Input} {ds : List Declared} {ss : SpannedStatements} → Sequence Longest i ds ss j → HaveTexts i.rest → places_in i.rest ≡ statements_count ss + places_in j.rest
  sequence (Sequenced t d) h = temporaries_passed t ∙ statements d (fit.temporaries_rest t h)

  statements : {i j : Input} {ss : SpannedStatements} → Statements Longest i ss j → HaveTexts i.rest → places_in i.rest ≡ statements_count ss + places_in j.rest
  statements {i} (BlankPeriod e d) h = passed i.rest Period e refl refl ∙ statements d (fit.behind i.rest h)
  statements (NoMore n) h = none_sum _ _ _ refl refl
  statements {i} {j} (Returned {m} {t} {c} e d x) h =
      more_sum _ _ _ 0 _ _ (passed i.rest Caret e refl refl ∙ expression d (fit.behind i.rest h)) (finish_passed x ∙ none_more (places_in j.rest) _ refl) (statements_sum c (from_of i) (Return (from_of i) m.last t) NoStatements)
  statements {i} (AnyStatement {n} {c} {ss} e d) h =
      let v = Var (from_of i) (next i).last n in
      more_sum _ _ _ _ _ _ (one_sum _ _ _ (counted i.rest (StatementMeta n) e refl refl) (meta_name (from_of i) (next i).last n (fit.text_of i.rest (StatementMeta n) h e).0)) (after d (fit.behind i.rest h)) (statements_sum c (from_of i) v ss)
  statements {i} (OneStatement {t} {c} {ss} d x) h = more_sum _ _ _ _ _ _ (expression d h) (after x (fit.expression d h).1) (statements_sum c (from_of i) t ss)

  after : {i j : Input} {c : Notes} {ss : SpannedStatements} → After Longest i c ss j → HaveTexts i.rest → places_in i.rest ≡ statements_count ss + places_in j.rest
  after {i} (Ended e d) h = passed i.rest Period e refl refl ∙ statements d (fit.behind i.rest h)
  after (Unended n) h = none_sum _ _ _ refl refl

-- behind a pattern only the end stands
pub all_counted : (ts : List Lexeme) (t : SpannedTree) → HaveTexts ts → IsPatternText Longest ts t → length (meta_places false ts) ≡ count t
all_counted ts t h p =
    let end : places_in p.stop.rest ≡ 0 = ap (λ (us : List Lexeme). places_in us) p.over.over in
    no_more (places_in ts) (count t) (places_in p.stop.rest) (expression p.expression h) end
  where
    no_more : (m n k : ℕ) → m ≡ n + k → k ≡ 0 → m ≡ n
    no_more m n k a b = omega (arith, a, b)
