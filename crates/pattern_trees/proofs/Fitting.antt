-- What tokens spell is a lawful pattern exactly where no sequence has two lists of statements.
use Rattle.std.proofs.Common.{◌≡◌, ℕ, true, false, true≢false, Option, None, List, [], ◌∷◌, refl, sym, subst}
use Rattle.std.specs.Prelude.{◌↔◌}
use Rattle.std.specs.List.{list_any}
use Rattle.std.specs.Option.{option_or}
use Rattle.text_model.specs.Literals.{is_identifier}
use Rattle.tree_model.specs.Tree.{Notes, LiteralOf, LiteralsOf}
use Rattle.grammar_model.specs.Terminal.{Text, Ordinary, Super, Terminal, Name, Keyword, Binary, OperandMeta, AnyName, StatementMeta, MessageMeta}
use Rattle.grammar_model.specs.Input.{Lexeme, lex, Input, from_of, next, first_kind, others}
use Rattle.grammar_model.specs.Spanned.{Declared, SpannedTree, Var, Literal, Send, Cascade, Assign, Block, Brace, Return, SpannedTrees, NoTrees, MoreTrees, one_tree, SpannedMessages, MoreMessages, SpannedStatements, NoStatements, plain_tree, plain_trees, plain_messages}
use Rattle.grammar_model.specs.Chain.{Chain, Waiting, Alone, Told, whole, sent}
use Rattle.grammar_model.specs.Ahead.{Longest}
use Rattle.grammar_model.specs.Literals.{KeywordRow, LastKeyword, JoinedKeyword, ByteElements, OneByte, NoBytes, LiteralAt, Unsigned, Negative, Fixed, Array, ByteArray, Element, LiteralElement, InnerArray, InnerBytes, NameElement, KeywordElement, BinaryElement, Elements, OneElement, NoElements}
use Rattle.grammar_model.specs.Grammar.{Temporaries, Periods, OnePeriod, NoPeriods, Names, OneName, NoNames, Parameters, OneParameter, NoParameters, Declares, DeclaresNone, Expression, Assigned, Simple, Operand, Variable, SuperName, LiteralOperand, Grouped, BlockOperand, BraceOperand, Unaries, OneUnary, NoUnaries, Binaries, OneBinary, NoBinaries, Keywords, OneKeywords, NoKeywords, Parts, LastPart, FurtherPart, Argument, BinaryArgument, KeywordArgument, ArgumentOfKeyword, Cascaded, NoCascade, OneCascade, Messages, OneMessage, LastMessage, Message, UnaryMessage, BinaryMessage, KeywordMessage, Items, NoItems, OneItem, FurtherItems, NextItem, LastItem, BlockBody, WithoutParameters, ParametersAlone, WithParameters, Sequence, Sequenced, Statements, BlankPeriod, NoMore, Returned, OneStatement, After, Ended, Unended, Finish, EndedReturn, UnendedReturn, MetaOperand, AnyUnary, AnyUnaryMessage, AnyStatement, AnyMessage, WholeMessage, AnyKeywords, AnyKeywordMessage}
use Rattle.grammar_model.specs.Whole.{IsPatternText}
use Rattle.pattern_model.specs.Patterns.{no_patterns}
use Rattle.pattern_model.specs.Matches.{is_operand_kind, is_statement_kind, IsLawfulBy, AreLawful, AreLawfulMessages, IsLawful, count_patterns}
use Rattle.pattern_model.specs.Spelled.{selector_like, arguments_like, pattern_of, patterns_in, messages_in}
use Rattle.pattern_trees.specs.Faults.{two_lists, trees_two_lists, messages_two_lists}
use Rattle.pattern_trees.proofs.TokenTexts.{HasText, HaveTexts}
use Rattle.pattern_trees.proofs.Bytes.{is_quote, operator_plain, identifier_without}
use Rattle.pattern_trees.proofs.Sorts.{as_statement, a_name, an_operand, a_statement}
use Rattle.pattern_trees.proofs.Selecting.{Selects, a_plain_selector, plain_arguments, a_unary_selector, unary_arguments, a_whole_message, whole_arguments, a_key, IsRow, more_row, last_row, a_row_selector, row_arguments}
use Rattle.pattern_trees.proofs.Lists.{or_parts, or_neither, FitStatements, none_fit, statement_fits}

-- the first token, and those behind it
first_text : (ts : List Lexeme) → HaveTexts ts → HasText (first_kind ts)
first_text [] h = tt
first_text (lex c f e k ∷ ts) h = h.0

pub text_of : (ts : List Lexeme) (k : Terminal) → HaveTexts ts → first_kind ts ≡ k → HasText k
text_of ts k h e = subst HasText e (first_text ts h)

pub behind : (ts : List Lexeme) → HaveTexts ts → HaveTexts (others ts)
behind [] h = tt
behind (lex c f e k ∷ ts) h = h.1

pub two_behind : (ts : List Lexeme) → HaveTexts ts → HaveTexts (others (others ts))
two_behind ts h = behind (others ts) (behind ts h)

-- what stands behind literals, periods and declarations
bytes_rest : {i j : Input} {xs : LiteralsOf Text} → ByteElements Longest i xs j → HaveTexts i.rest → HaveTexts j.rest
bytes_rest {i} (OneByte e x d) h = bytes_rest d (behind i.rest h)
bytes_rest (NoBytes n) h = h

row_rest : {i j : Input} {k : Text} → KeywordRow i k j → HaveTexts i.rest → HaveTexts j.rest
row_rest {i} (LastKeyword e n j) h = behind i.rest h
row_rest {i} (JoinedKeyword e n j d) h = row_rest d (behind i.rest h)

mutual
  pub literal_rest : {i j : Input} {l : LiteralOf Text} → LiteralAt Longest i l j → HaveTexts i.rest → HaveTexts j.rest
  literal_rest {i} (Unsigned e) h = behind i.rest h
  literal_rest {i} (Negative e f) h = two_behind i.rest h
  literal_rest {i} (Fixed e) h = behind i.rest h
  literal_rest {i} (Array {m} e a c) h = behind m.rest (elements_rest a (behind i.rest h))
  literal_rest {i} (ByteArray {m} e a c) h = behind m.rest (bytes_rest a (behind i.rest h))

  element_rest : {i j : Input} {l : LiteralOf Text} → Element Longest i l j → HaveTexts i.rest → HaveTexts j.rest
  element_rest (LiteralElement d) h = literal_rest d h
  element_rest {i} (InnerArray {m} e a c) h = behind m.rest (elements_rest a (behind i.rest h))
  element_rest {i} (InnerBytes {m} e a c) h = behind m.rest (bytes_rest a (behind i.rest h))
  element_rest {i} (NameElement e) h = behind i.rest h
  element_rest (KeywordElement d) h = row_rest d h
  element_rest {i} (BinaryElement e n) h = behind i.rest h

  elements_rest : {i j : Input} {xs : LiteralsOf Text} → Elements Longest i xs j → HaveTexts i.rest → HaveTexts j.rest
  elements_rest (OneElement d r) h = elements_rest r (element_rest d h)
  elements_rest (NoElements n) h = h

periods_rest : {i j : Input} → Periods Longest i j → HaveTexts i.rest → HaveTexts j.rest
periods_rest {i} (OnePeriod e d) h = periods_rest d (behind i.rest h)
periods_rest (NoPeriods n) h = h

pub finish_rest : {i j : Input} {n : Notes} → Finish Longest i n j → HaveTexts i.rest → HaveTexts j.rest
finish_rest {i} (EndedReturn e p) h = periods_rest p (behind i.rest h)
finish_rest (UnendedReturn n) h = h

names_rest : {i j : Input} {ds : List Declared} → Names Longest i ds j → HaveTexts i.rest → HaveTexts j.rest
names_rest {i} (OneName e d) h = names_rest d (behind i.rest h)
names_rest (NoNames n) h = h

pub parameters_rest : {i j : Input} {ds : List Declared} → Parameters Longest i ds j → HaveTexts i.rest → HaveTexts j.rest
parameters_rest {i} (OneParameter e f d) h = parameters_rest d (two_behind i.rest h)
parameters_rest (NoParameters n) h = h

pub temporaries_rest : {i j : Input} {ds : List Declared} → Temporaries Longest i ds j → HaveTexts i.rest → HaveTexts j.rest
temporaries_rest {i} (Declares {j} e d f) h = behind j.rest (names_rest d (behind i.rest h))
temporaries_rest (DeclaresNone n) h = h

-- a tree, trees and messages that spell a lawful pattern exactly where no sequence in them has two lists of statements
abbrev pub Fits : SpannedTree → Type 0
Fits t = (two_lists t ≡ None) ↔ IsLawfulBy is_operand_kind (pattern_of (plain_tree t))

abbrev pub FitTrees : SpannedTrees → Type 0
FitTrees ts = (trees_two_lists ts ≡ None) ↔ AreLawful (patterns_in (plain_trees ts))

abbrev pub FitMessages : SpannedMessages → Type 0
FitMessages ms = (messages_two_lists ms ≡ None) ↔ AreLawfulMessages (messages_in (plain_messages ms))

-- a selector with these arguments
abbrev pub Selected : Text → SpannedTrees → Type 0
Selected s xs = Selects s (patterns_in (plain_trees xs))

abbrev pub FitMessage : Text → SpannedTrees → Type 0
FitMessage s xs = Selected s xs × ((trees_two_lists xs ≡ None) ↔ AreLawful (arguments_like (selector_like s) (patterns_in (plain_trees xs))))

-- what has no sequence
always : {P : Type 0} (o : Option ℕ) → o ≡ None → P → (o ≡ None) ↔ P
always o e x = ((λ z. x), (λ l. e))

no_trees_fit : FitTrees NoTrees
no_trees_fit = always None refl tt

-- two parts
both_fit : {P Q : Type 0} (o p : Option ℕ) → (o ≡ None) ↔ P → (p ≡ None) ↔ Q → (option_or o p ≡ None) ↔ (P × Q)
both_fit o p a b = ((λ z. let q = or_parts o p z in (a.0 q.0, b.0 q.1)), (λ l. or_neither o p (a.1 l.0) (b.1 l.1)))

-- a message whose selector has arguments of its own
message_fits : (s : Text) (xs : SpannedTrees) → Selected s xs → arguments_like (selector_like s) (patterns_in (plain_trees xs)) ≡ patterns_in (plain_trees xs) → FitTrees xs → FitMessage s xs
message_fits s xs a e b = (a, ((λ z. subst AreLawful (sym e) (b.0 z)), (λ l. b.1 (subst AreLawful e l))))

-- a receiver is sent a message
send_fits : (f e : ℕ) (r : SpannedTree) (s : Text) (xs : SpannedTrees) → Fits r → FitMessage s xs → Fits (Send f e r s xs)
send_fits f e r s xs a m = (
  (λ z. let p = or_parts (two_lists r) (trees_two_lists xs) z in (a.0 p.0, m.0, m.1.0 p.1)),
  (λ l. or_neither (two_lists r) (trees_two_lists xs) (a.1 l.0) (m.1.1 l.2)),
)

sent_fits : (f e : ℕ) (r : Chain) (s : Text) (xs : SpannedTrees) → Fits (whole r) → FitMessage s xs → Fits (whole (sent f e r s xs))
sent_fits f e (Waiting g h n) s xs a m = send_fits f e (Var g h n) s xs a m
sent_fits f e (Alone t) s xs a m = send_fits f e t s xs a m
sent_fits f e (Told g h r t ys) s xs a m = send_fits f e (Send g h r t ys) s xs a m

-- a selector without metavariables
plain_fits : (s : Text) → list_any is_quote s ≡ false → (xs : SpannedTrees) → FitTrees xs → FitMessage s xs
plain_fits s h xs a = message_fits s xs (a_plain_selector s (patterns_in (plain_trees xs)) h) (plain_arguments s (patterns_in (plain_trees xs)) h) a

name_fits : (n : Text) → is_identifier n ≡ true → FitMessage n NoTrees
name_fits n h = plain_fits n (identifier_without 96 refl refl n h) NoTrees no_trees_fit

unary_fits : (n : Text) → HasText (OperandMeta AnyName n) → FitMessage n NoTrees
unary_fits n h = message_fits n NoTrees (a_unary_selector n h) (unary_arguments n no_patterns h) no_trees_fit

row_fits : (s : Text) (xs : SpannedTrees) → IsRow s (count_patterns (patterns_in (plain_trees xs))) → FitTrees xs → FitMessage s xs
row_fits s xs r a = message_fits s xs (a_row_selector s (patterns_in (plain_trees xs)) r) (row_arguments s (patterns_in (plain_trees xs)) r) a

-- one tree, and trees in front of others
more_fit : (t : SpannedTree) (ts : SpannedTrees) → Fits t → FitTrees ts → FitTrees (MoreTrees t ts)
more_fit t ts a b = both_fit (two_lists t) (trees_two_lists ts) a b

one_fits : (t : SpannedTree) → Fits t → FitTrees (one_tree t)
one_fits t a = more_fit t NoTrees a no_trees_fit

-- a message in front of others
first_message : (s : Text) (xs : SpannedTrees) (ms : SpannedMessages) → FitMessage s xs → FitMessages ms → FitMessages (MoreMessages s xs ms)
first_message s xs ms a b = (
  (λ z. let p = or_parts (trees_two_lists xs) (messages_two_lists ms) z in (a.0, a.1.0 p.0, b.0 p.1)),
  (λ l. or_neither (trees_two_lists xs) (messages_two_lists ms) (a.1.1 l.1) (b.1 l.2)),
)

-- a cascade goes on from a message that was sent
cascade_fits : (f e g : ℕ) (r : SpannedTree) (s : Text) (xs : SpannedTrees) (ms : SpannedMessages) → Fits (Send f e r s xs) → FitMessages ms → Fits (Cascade f g r (MoreMessages s xs ms))
cascade_fits f e g r s xs ms a b = (
  (λ z.
      let p = or_parts (two_lists r) (option_or (trees_two_lists xs) (messages_two_lists ms)) z in
      let q = or_parts (trees_two_lists xs) (messages_two_lists ms) p.1 in
      let l = a.0 (or_neither (two_lists r) (trees_two_lists xs) p.0 q.0) in
      (l.0, (l.1, l.2, b.0 q.1))),
  (λ l.
      let p = or_parts (two_lists r) (trees_two_lists xs) (a.1 (l.0, l.1.0, l.1.1)) in
      or_neither (two_lists r) (option_or (trees_two_lists xs) (messages_two_lists ms)) p.0 (or_neither (trees_two_lists xs) (messages_two_lists ms) p.1 (b.1 l.1.2))),
)

-- an expression as a statement
fits_statement : (t : SpannedTree) → Fits t → (two_lists t ≡ None) ↔ IsLawfulBy is_statement_kind (pattern_of (plain_tree t))
fits_statement t a = ((λ z. as_statement (pattern_of (plain_tree t)) (a.0 z)), by t a.1)
  where
    by : (t : SpannedTree) → (IsLawfulBy is_operand_kind (pattern_of (plain_tree t)) → two_lists t ≡ None) → IsLawfulBy is_statement_kind (pattern_of (plain_tree t)) → two_lists t ≡ None
    by (Var f e n) g l = refl
    by (Literal f e x) g l = refl
    by (Send f e r s xs) g l = g l
    by (Cascade f e r ms) g l = g l
    by (Assign f e n v) g l = g l
    by (Block f e ps ds ss c) g l = g l
    by (Brace f e ts) g l = g l
    by (Return f e v) g l = g l

pub any_message : {i j : Input} {s : Text} {xs : SpannedTrees} → AnyMessage Longest i s xs j → HaveTexts i.rest → FitMessage s xs × HaveTexts j.rest
any_message {i} (WholeMessage {k} {n} e f x) h =
    let t = text_of i.rest (MessageMeta k) h e in
    ((a_whole_message k _ t, always None refl (whole_arguments k _ t)), two_behind i.rest h)

mutual
  pub expression : {i j : Input} {t : SpannedTree} → Expression Longest i t j → HaveTexts i.rest → Fits t × HaveTexts j.rest
  expression {i} (Assigned {v} e f d) h = let r = expression d (two_behind i.rest h) in (r.0, r.1)
  expression {i} (Simple {r} {u} {b} {w} n o us bs ks c) h =
      let x = operand o h in
      let y = unaries us x.0 x.1 in
      let z = binaries bs y.0 y.1 in
      let v = keywords ks z.0 z.1 in
      cascaded c v.0 v.1

  pub operand : {i j : Input} {r : Chain} → Operand Longest i r j → HaveTexts i.rest → Fits (whole r) × HaveTexts j.rest
  operand {i} (Variable {n} e) h = (always None refl (a_name is_operand_kind n (text_of i.rest (Name Ordinary n) h e)), behind i.rest h)
  operand {i} (SuperName {n} e) h = (always None refl (a_name is_operand_kind n (text_of i.rest (Name Super n) h e)), behind i.rest h)
  operand {i} (MetaOperand {m} {n} e) h = (always None refl (an_operand m n (text_of i.rest (OperandMeta m n) h e)), behind i.rest h)
  operand (LiteralOperand d) h = (always None refl tt, literal_rest d h)
  operand {i} (Grouped {m} e d c) h = let r = expression d (behind i.rest h) in (r.0, behind m.rest r.1)
  operand {i} (BlockOperand {m} e b c) h = let r = block_body b (behind i.rest h) in (((λ z. ((r.0 false).0 z).0), (λ l. (r.0 false).1 (l, (λ e. let bad : ⊥ = true≢false (sym e) in absurd bad)))), behind m.rest r.1)
  operand {i} (BraceOperand {m} e d c) h = let r = items d (behind i.rest h) in (r.0, behind m.rest r.1)

  pub unaries : {f : ℕ} {i j : Input} {r u : Chain} → Unaries Longest f r i u j → Fits (whole r) → HaveTexts i.rest → Fits (whole u) × HaveTexts j.rest
  unaries {f} {i} {r = r} (OneUnary {c} {n} e d) a h = unaries d (sent_fits f (next i).last r n NoTrees a (name_fits n (text_of i.rest (Name c n) h e))) (behind i.rest h)
  unaries {f} {i} {r = r} (AnyUnary {n} e d) a h = unaries d (sent_fits f (next i).last r n NoTrees a (unary_fits n (text_of i.rest (OperandMeta AnyName n) h e))) (behind i.rest h)
  unaries (NoUnaries n) a h = (a, h)

  pub binaries : {f : ℕ} {i j : Input} {r u : Chain} → Binaries Longest f r i u j → Fits (whole r) → HaveTexts i.rest → Fits (whole u) × HaveTexts j.rest
  binaries {f} {i} {r = r} (OneBinary {m} {c} {s} {x} e y d) a h =
      let b = argument y (behind i.rest h) in
      binaries d (sent_fits f m.last r s (one_tree x) a (plain_fits s (operator_plain s (text_of i.rest (Binary c s) h e)) (one_tree x) (one_fits x b.0))) b.1
  binaries (NoBinaries n) a h = (a, h)

  pub keywords : {f : ℕ} {i j : Input} {r u : Chain} → Keywords Longest f r i u j → Fits (whole r) → HaveTexts i.rest → Fits (whole u) × HaveTexts j.rest
  keywords {f} {j = j} {r = r} (OneKeywords {s} {xs} d) a h = let p = parts d h in (sent_fits f j.last r s xs a (row_fits s xs p.0 p.1), p.2)
  keywords {f} {j = j} {r = r} (AnyKeywords {s} {xs} d) a h = let p = any_message d h in (sent_fits f j.last r s xs a p.0, p.1)
  keywords (NoKeywords n) a h = (a, h)

  pub parts : {i j : Input} {s : Text} {xs : SpannedTrees} → Parts Longest i s xs j → HaveTexts i.rest → IsRow s (count_patterns (patterns_in (plain_trees xs))) × FitTrees xs × HaveTexts j.rest
  parts {i} (LastPart {c} {k} {x} e y n) h = let b = keyword_argument y (behind i.rest h) in (last_row k (a_key c k (text_of i.rest (Keyword c k) h e)), one_fits x b.0, b.1)
  parts {i} (FurtherPart {c} {k} {s} {x} {xs} e y d) h =
      let b = keyword_argument y (behind i.rest h) in
      let p = parts d b.1 in
      (more_row k s (count_patterns (patterns_in (plain_trees xs))) (a_key c k (text_of i.rest (Keyword c k) h e)) p.0, more_fit x xs b.0 p.1, p.2)

  pub argument : {i j : Input} {t : SpannedTree} → Argument Longest i t j → HaveTexts i.rest → Fits t × HaveTexts j.rest
  argument (BinaryArgument o us w) h = let x = operand o h in unaries us x.0 x.1

  pub keyword_argument : {i j : Input} {t : SpannedTree} → KeywordArgument Longest i t j → HaveTexts i.rest → Fits t × HaveTexts j.rest
  keyword_argument (ArgumentOfKeyword o us bs w) h =
      let x = operand o h in
      let y = unaries us x.0 x.1 in
      binaries bs y.0 y.1

  pub cascaded : {r : Chain} {i j : Input} {t : SpannedTree} → Cascaded Longest r i t j → Fits (whole r) → HaveTexts i.rest → Fits t × HaveTexts j.rest
  cascaded (NoCascade w n) a h = (a, h)
  cascaded {j = j} (OneCascade {f} {e = end} {r} {s} {xs} {ms} semicolon d) a h =
      let m = messages d h in
      (cascade_fits f end j.last r s xs ms a m.0, m.1)

  pub messages : {i j : Input} {ms : SpannedMessages} → Messages Longest i ms j → HaveTexts i.rest → FitMessages ms × HaveTexts j.rest
  messages {i} (OneMessage {s} {xs} {ms} e y d) h =
      let a = message y (behind i.rest h) in
      let b = messages d a.1 in
      (first_message s xs ms a.0 b.0, b.1)
  messages (LastMessage n) h = (always None refl tt, h)

  pub message : {i j : Input} {s : Text} {xs : SpannedTrees} → Message Longest i s xs j → HaveTexts i.rest → FitMessage s xs × HaveTexts j.rest
  message {i} (UnaryMessage {c} {n} e) h = (name_fits n (text_of i.rest (Name c n) h e), behind i.rest h)
  message {i} (AnyUnaryMessage {n} e) h = (unary_fits n (text_of i.rest (OperandMeta AnyName n) h e), behind i.rest h)
  message {i} (BinaryMessage {c} {s} {x} e y) h = let b = argument y (behind i.rest h) in (plain_fits s (operator_plain s (text_of i.rest (Binary c s) h e)) (one_tree x) (one_fits x b.0), b.1)
  message (KeywordMessage {s} {xs} d) h = let p = parts d h in (row_fits s xs p.0 p.1, p.2)
  message (AnyKeywordMessage d) h = any_message d h

  pub items : {i j : Input} {ts : SpannedTrees} → Items Longest i ts j → HaveTexts i.rest → FitTrees ts × HaveTexts j.rest
  items (NoItems n) h = (no_trees_fit, h)
  items (OneItem {t} {ts} d r) h =
      let a = expression d h in
      let b = further_items r a.1 in
      (more_fit t ts a.0 b.0, b.1)

  pub further_items : {i j : Input} {ts : SpannedTrees} → FurtherItems Longest i ts j → HaveTexts i.rest → FitTrees ts × HaveTexts j.rest
  further_items {i} (NextItem e d) h = items d (behind i.rest h)
  further_items (LastItem n) h = (no_trees_fit, h)

  pub block_body : {i j : Input} {ps ds : List Declared} {ss : SpannedStatements} → BlockBody Longest i ps ds ss j → HaveTexts i.rest → FitStatements ss × HaveTexts j.rest
  block_body (WithoutParameters n d) h = sequence d h
  block_body (ParametersAlone e p c) h = (none_fit, parameters_rest p h)
  block_body (WithParameters {m} e p c d) h = sequence d (behind m.rest (parameters_rest p h))

  pub sequence : {i j : Input} {ds : List Declared} {ss : SpannedStatements} → Sequence Longest i ds ss j → HaveTexts i.rest → FitStatements ss × HaveTexts j.rest
  sequence (Sequenced t d) h = statements d (temporaries_rest t h)

  pub statements : {i j : Input} {ss : SpannedStatements} → Statements Longest i ss j → HaveTexts i.rest → FitStatements ss × HaveTexts j.rest
  statements {i} (BlankPeriod e d) h = statements d (behind i.rest h)
  statements (NoMore n) h = (none_fit, h)
  statements {i} (Returned {m} {t} {c} e d x) h =
      let a = expression d (behind i.rest h) in
      (statement_fits c (from_of i) (Return (from_of i) m.last t) NoStatements a.0 none_fit, finish_rest x a.1)
  statements {i} (AnyStatement {n} {c} {ss} e d) h =
      let b = after d (behind i.rest h) in
      (statement_fits c (from_of i) (Var (from_of i) (next i).last n) ss (always None refl (a_statement n (text_of i.rest (StatementMeta n) h e).0)) b.0, b.1)
  statements {i} (OneStatement {t} {c} {ss} d x) h =
      let a = expression d h in
      let b = after x a.1 in
      (statement_fits c (from_of i) t ss (fits_statement t a.0) b.0, b.1)

  pub after : {i j : Input} {c : Notes} {ss : SpannedStatements} → After Longest i c ss j → HaveTexts i.rest → FitStatements ss × HaveTexts j.rest
  after {i} (Ended e d) h = statements d (behind i.rest h)
  after (Unended n) h = (none_fit, h)

-- a whole pattern
pub lawful : (ts : List Lexeme) (t : SpannedTree) → HaveTexts ts → IsPatternText Longest ts t → (two_lists t ≡ None) ↔ IsLawful (pattern_of (plain_tree t))
lawful ts t h p = (expression p.expression h).0
