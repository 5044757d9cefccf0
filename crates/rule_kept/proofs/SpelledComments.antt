-- The comments in the blocks of a pattern that a text spells are comments.
use Rattle.std.proofs.Common.{◌≡◌, ℕ, inl, inr, Bool, true, false, List, [], ◌∷◌, ◌++◌, Option, Some, None, refl, sym, subst}
use Rattle.std.specs.Prelude.{slice_range, if◌then◌else◌}
use Rattle.std.specs.Option.{option_map_or}
use Rattle.token_model.specs.TokenLists.{Piece}
use Rattle.token_model.specs.declared.kind.Dialect.{Dialect}
use Rattle.token_model.specs.declared.kind.Dialect.TheVariants.{Second}
use Rattle.token_model.specs.declared.kind.TokenKind.{TokenKind}
use Rattle.token_model.specs.declared.kind.TokenKind.TheVariants as token
use Rattle.token_model.specs.declared.fault.LexFault.{LexFault}
use Rattle.token_model.proofs.Spans.{IsToken-inside}
use Rattle.tree_model.specs.Tree.{Notes, LiteralOf, LiteralsOf, TreeOf, var, literal, send, cascade, assign, block, brace, return, TreesOf, no_trees, more_trees, MessagesOf, no_messages, more_messages, StatementsOf, no_statements, more_statements}
use Rattle.grammar_model.specs.Terminal.{Text, Terminal}
use Rattle.grammar_model.specs.Input.{Lexeme, lex, Input, beginning, next, clear, back, first_notes, others}
use Rattle.grammar_model.specs.Lexemes.{begins_numeral, lexemes_by}
use Rattle.grammar_model.specs.PatternTokens.{IsPatternToken, HasPatternTokens, Ended as AtEnd, Stopped, Further, pattern_terminal_of, IsPatternLexed}
use Rattle.grammar_model.specs.Spanned.{Declared, SpannedTree, SpannedTrees, NoTrees, one_tree, SpannedMessages, SpannedStatements, plain_tree, plain_trees, plain_messages, plain_statements}
use Rattle.grammar_model.specs.Chain.{Chain, Waiting, Alone, Told, whole, sent}
use Rattle.grammar_model.specs.Ahead.{Longest}
use Rattle.grammar_model.specs.Literals.{KeywordRow, LastKeyword, JoinedKeyword, ByteElements, OneByte, NoBytes, LiteralAt, Unsigned, Negative, Fixed, Array, ByteArray, Element, LiteralElement, InnerArray, InnerBytes, NameElement, KeywordElement, BinaryElement, Elements, OneElement, NoElements}
use Rattle.grammar_model.specs.Grammar.{Periods, OnePeriod, NoPeriods, Names, OneName, NoNames, Parameters, OneParameter, NoParameters, Temporaries, Declares, DeclaresNone, Expression, Assigned, Simple, Operand, Variable, SuperName, MetaOperand, LiteralOperand, Grouped, BlockOperand, BraceOperand, Unaries, OneUnary, AnyUnary, NoUnaries, Binaries, OneBinary, NoBinaries, Keywords, OneKeywords, AnyKeywords, NoKeywords, AnyMessage, WholeMessage, Parts, LastPart, FurtherPart, Argument, BinaryArgument, KeywordArgument, ArgumentOfKeyword, Cascaded, NoCascade, OneCascade, Messages, OneMessage, LastMessage, Message, UnaryMessage, AnyUnaryMessage, BinaryMessage, KeywordMessage, AnyKeywordMessage, Items, NoItems, OneItem, FurtherItems, NextItem, LastItem, BlockBody, WithoutParameters, ParametersAlone, WithParameters, Sequence, Sequenced, Statements, BlankPeriod, NoMore, Returned, AnyStatement, OneStatement, After, Ended, Unended, Finish, EndedReturn, UnendedReturn}
use Rattle.grammar_model.specs.Spelling.{SpellsPatternAt}
use Rattle.reread_law.specs.WellFormed.{IsNote, AllNotes}
use Rattle.reread_law.proofs.Sound.{notes_append, comment_good}
use Rattle.pattern_model.specs.Patterns.{SelectorLike, this_selector, any_unary, of_keywords, any_message, PatternsOf}
use Rattle.pattern_model.specs.Spelled.{is_meta, selector_like, arguments_like, pattern_of, patterns_in, messages_in, statements_in, operand_meta}
use Rattle.pattern_model.specs.Patterns.{meta, var_like}
use Rattle.rule_kept.specs.PatternComments.{HasComments, AllHaveComments, MessagesHaveComments, StatementsHaveComments}
use Rattle.rule_kept.proofs.Comments.{HasNotes, TreesNotes, MessagesNotes, LinesNotes}

-- tokens with the comments before them
abbrev LexemeNotes : List Lexeme → Type 0
LexemeNotes [] = Unit {0}
LexemeNotes (lex c f e k ∷ ts) = AllNotes c × LexemeNotes ts

-- what is left to read, and the comments that are held
record Noted (i : Input) : Type 0 where
  held : AllNotes i.held
  rest : LexemeNotes i.rest

first_noted : (ts : List Lexeme) → LexemeNotes ts → AllNotes (first_notes ts)
first_noted [] h = tt
first_noted (lex c f e k ∷ ts) h = h.0

others_noted : (ts : List Lexeme) → LexemeNotes ts → LexemeNotes (others ts)
others_noted [] h = tt
others_noted (lex c f e k ∷ ts) h = h.1

noted_next : {i : Input} → Noted i → Noted (next i)
noted_next {i} s = record { held = notes_append i.held (first_notes i.rest) s.held (first_noted i.rest s.rest); rest = others_noted i.rest s.rest }

noted_clear : {i : Input} → Noted i → Noted (clear i)
noted_clear s = record { held = tt; rest = s.rest }

noted_back : {o i : Input} → Noted o → Noted i → Noted (back o i)
noted_back s t = record { held = s.held; rest = t.rest }

-- what the grammar does not see is a comment
comment_token : (d : Dialect) (t : List ℕ) (i j : ℕ) → IsPatternToken d token.Comment t i j → IsNote (slice_range t i j)
comment_token d t i j (inl h) = let inside = IsToken-inside d token.Comment t i j h in comment_good t i j inside.0 inside.1 h
comment_token d t i j (inr m) = absurd m.mark

unseen : (d : Dialect) (k : TokenKind) (t : List ℕ) (i j : ℕ) (s : Text) (b : Bool) → IsPatternToken d k t i j → pattern_terminal_of k s b ≡ None → IsNote (slice_range t i j)
unseen d token.Comment t i j s b h e = comment_token d t i j h
unseen d k t i j s b h e = cc

-- one token more, or a comment
noted_step : (o : Option Terminal) (c : Notes) (f e : ℕ) (ts us : List Lexeme) → AllNotes c → LexemeNotes ts → (o ≡ None → LexemeNotes us) → LexemeNotes (option_map_or (λ k. lex c f e k ∷ ts) o us)
noted_step None c f e ts us n h r = r refl
noted_step (Some k) c f e ts us n h r = (n, h)

tokens_noted : (d : Dialect) (t : Text) (at : ℕ) (ps : List Piece) (fault : Option LexFault) (held : Notes) → AllNotes held → HasPatternTokens d t at ps fault → LexemeNotes (lexemes_by pattern_terminal_of t held ps)
tokens_noted d t at ps fault held n (AtEnd here p h e) =
    noted_step (pattern_terminal_of p.kind (slice_range t p.from p.to) false) held p.from p.to [] [] n tt (λ is. tt)
tokens_noted d t at ps fault held n (Stopped here f h) = tt
tokens_noted d t at ps fault held n (Further here p qs f h e r) =
    let b = begins_numeral p.to qs in
    let s = slice_range t p.from p.to in
    noted_step (pattern_terminal_of p.kind s b) held p.from p.to (lexemes_by pattern_terminal_of t [] qs) (lexemes_by pattern_terminal_of t (held ++ s ∷ []) qs) n (tokens_noted d t p.to qs f [] tt r)
    (λ is. tokens_noted d t p.to qs f (held ++ s ∷ []) (notes_append held (s ∷ []) n (unseen d p.kind t p.from p.to s b h.token is, tt)) r)

noted_lexed : (d : Dialect) (t : Text) (ts : List Lexeme) → IsPatternLexed d t ts → Noted (beginning ts)
noted_lexed d t ts l = record { held = tt; rest = subst LexemeNotes (sym l.same) (tokens_noted d t 0 l.pieces None [] tt l.read) }

-- literals
row_noted : {i j : Input} {k : Text} → KeywordRow i k j → Noted i → Noted j
row_noted (LastKeyword e q n) s = noted_next s
row_noted (JoinedKeyword e q n r) s = row_noted r (noted_next s)

bytes_noted : {i j : Input} {ls : LiteralsOf Text} → ByteElements Longest i ls j → Noted i → Noted j
bytes_noted (OneByte e d r) s = bytes_noted r (noted_next s)
bytes_noted (NoBytes n) s = s

mutual
  literal_noted : {i j : Input} {l : LiteralOf Text} → LiteralAt Longest i l j → Noted i → Noted j
  literal_noted (Unsigned e) s = noted_next s
  literal_noted (Negative e f) s = noted_next (noted_next s)
  literal_noted (Fixed e) s = noted_next s
  literal_noted (Array e r c) s = noted_next (elements_noted r (noted_next s))
  literal_noted (ByteArray e r c) s = noted_next (bytes_noted r (noted_next s))

  element_noted : {i j : Input} {l : LiteralOf Text} → Element Longest i l j → Noted i → Noted j
  element_noted (LiteralElement d) s = literal_noted d s
  element_noted (InnerArray e r c) s = noted_next (elements_noted r (noted_next s))
  element_noted (InnerBytes e r c) s = noted_next (bytes_noted r (noted_next s))
  element_noted (NameElement e) s = noted_next s
  element_noted (KeywordElement r) s = row_noted r s
  element_noted (BinaryElement e n) s = noted_next s

  elements_noted : {i j : Input} {ls : LiteralsOf Text} → Elements Longest i ls j → Noted i → Noted j
  elements_noted (OneElement x r) s = elements_noted r (element_noted x s)
  elements_noted (NoElements n) s = s

-- periods and declarations
periods_noted : {i j : Input} → Periods Longest i j → Noted i → Noted j
periods_noted (OnePeriod e r) s = periods_noted r (noted_next s)
periods_noted (NoPeriods n) s = s

names_noted : {i j : Input} {ds : List Declared} → Names Longest i ds j → Noted i → Noted j
names_noted (OneName e r) s = names_noted r (noted_next s)
names_noted (NoNames n) s = s

parameters_noted : {i j : Input} {ds : List Declared} → Parameters Longest i ds j → Noted i → Noted j
parameters_noted (OneParameter e f r) s = parameters_noted r (noted_next (noted_next s))
parameters_noted (NoParameters n) s = s

temporaries_noted : {i j : Input} {ds : List Declared} → Temporaries Longest i ds j → Noted i → Noted j
temporaries_noted (Declares e r f) s = noted_next (names_noted r (noted_next s))
temporaries_noted (DeclaresNone n) s = s

-- a receiver and its messages
abbrev ChainNotes : Chain → Type 0
ChainNotes (Waiting f e n) = Unit {0}
ChainNotes (Alone t) = HasNotes (plain_tree t)
ChainNotes (Told f e r s xs) = HasNotes (plain_tree r) × TreesNotes (plain_trees xs)

whole_noted : (c : Chain) → ChainNotes c → HasNotes (plain_tree (whole c))
whole_noted (Waiting f e n) h = tt
whole_noted (Alone t) h = h
whole_noted (Told f e r s xs) h = h

sent_noted : (f e : ℕ) (c : Chain) (s : Text) (xs : SpannedTrees) → ChainNotes c → TreesNotes (plain_trees xs) → ChainNotes (sent f e c s xs)
sent_noted f e (Waiting g h n) s xs c a = (tt, a)
sent_noted f e (Alone t) s xs c a = (c, a)
sent_noted f e (Told g h r t ys) s xs c a = (c, a)

mutual
  expression_noted : {i j : Input} {t : SpannedTree} → Expression Longest i t j → Noted i → HasNotes (plain_tree t) × Noted j
  expression_noted (Assigned e f d) s = expression_noted d (noted_next (noted_next s))
  expression_noted (Simple plain o u b k c) s =
      let first = operand_noted o s in
      let second = unaries_noted u first.0 first.1 in
      let third = binaries_noted b second.0 second.1 in
      let fourth = keywords_noted k third.0 third.1 in
      cascaded_noted c fourth.0 fourth.1

  operand_noted : {i j : Input} {r : Chain} → Operand Longest i r j → Noted i → ChainNotes r × Noted j
  operand_noted (Variable e) s = (tt, noted_next s)
  operand_noted (SuperName e) s = (tt, noted_next s)
  operand_noted (MetaOperand e) s = (tt, noted_next s)
  operand_noted (LiteralOperand d) s = (tt, literal_noted d s)
  operand_noted (Grouped e d c) s = let g = expression_noted d (noted_next s) in (g.0, noted_next g.1)
  operand_noted (BlockOperand e b c) s =
      let g = body_noted b (noted_clear (noted_next s)) in
      let after = noted_next g.1 in
      ((g.0, after.held), noted_back (noted_next s) after)
  operand_noted (BraceOperand e d c) s = let g = items_noted d (noted_next s) in (g.0, noted_next g.1)

  unaries_noted : {f : ℕ} {i j : Input} {r u : Chain} → Unaries Longest f r i u j → ChainNotes r → Noted i → ChainNotes u × Noted j
  unaries_noted {f} {i} {r} (OneUnary {n} e d) c s = unaries_noted d (sent_noted f (next i).last r n NoTrees c tt) (noted_next s)
  unaries_noted {f} {i} {r} (AnyUnary {n} e d) c s = unaries_noted d (sent_noted f (next i).last r n NoTrees c tt) (noted_next s)
  unaries_noted (NoUnaries n) c s = (c, s)

  binaries_noted : {f : ℕ} {i j : Input} {r u : Chain} → Binaries Longest f r i u j → ChainNotes r → Noted i → ChainNotes u × Noted j
  binaries_noted {f} {i} {r} (OneBinary {m} {s = p} {x} e y d) c s =
      let g = argument_noted y (noted_next s) in
      binaries_noted d (sent_noted f m.last r p (one_tree x) c (g.0, tt)) g.1
  binaries_noted (NoBinaries n) c s = (c, s)

  keywords_noted : {f : ℕ} {i j : Input} {r u : Chain} → Keywords Longest f r i u j → ChainNotes r → Noted i → ChainNotes u × Noted j
  keywords_noted {f} {i} {j} {r} (OneKeywords {s = p} {xs} d) c s = let g = parts_noted d s in (sent_noted f j.last r p xs c g.0, g.1)
  keywords_noted {f} {i} {j} {r} (AnyKeywords {s = p} {xs} d) c s = let g = any_noted d s in (sent_noted f j.last r p xs c g.0, g.1)
  keywords_noted (NoKeywords n) c s = (c, s)

  any_noted : {i j : Input} {s : Text} {xs : SpannedTrees} → AnyMessage Longest i s xs j → Noted i → TreesNotes (plain_trees xs) × Noted j
  any_noted (WholeMessage e f n) s = ((tt, tt), noted_next (noted_next s))

  parts_noted : {i j : Input} {s : Text} {xs : SpannedTrees} → Parts Longest i s xs j → Noted i → TreesNotes (plain_trees xs) × Noted j
  parts_noted (LastPart e x n) s = let g = keyword_argument_noted x (noted_next s) in ((g.0, tt), g.1)
  parts_noted (FurtherPart e x d) s =
      let g = keyword_argument_noted x (noted_next s) in
      let h = parts_noted d g.1 in
      ((g.0, h.0), h.1)

  argument_noted : {i j : Input} {t : SpannedTree} → Argument Longest i t j → Noted i → HasNotes (plain_tree t) × Noted j
  argument_noted (BinaryArgument {u} o d w) s =
      let first = operand_noted o s in
      let second = unaries_noted d first.0 first.1 in
      (whole_noted u second.0, second.1)

  keyword_argument_noted : {i j : Input} {t : SpannedTree} → KeywordArgument Longest i t j → Noted i → HasNotes (plain_tree t) × Noted j
  keyword_argument_noted (ArgumentOfKeyword {b} o d c w) s =
      let first = operand_noted o s in
      let second = unaries_noted d first.0 first.1 in
      let third = binaries_noted c second.0 second.1 in
      (whole_noted b third.0, third.1)

  cascaded_noted : {r : Chain} {i j : Input} {t : SpannedTree} → Cascaded Longest r i t j → ChainNotes r → Noted i → HasNotes (plain_tree t) × Noted j
  cascaded_noted (NoCascade {r} w n) c s = (whole_noted r c, s)
  cascaded_noted (OneCascade e d) c s = let g = messages_noted d s in ((c.0, (c.1, g.0)), g.1)

  messages_noted : {i j : Input} {ms : SpannedMessages} → Messages Longest i ms j → Noted i → MessagesNotes (plain_messages ms) × Noted j
  messages_noted (OneMessage e m d) s =
      let g = message_noted m (noted_next s) in
      let h = messages_noted d g.1 in
      ((g.0, h.0), h.1)
  messages_noted (LastMessage n) s = (tt, s)

  message_noted : {i j : Input} {s : Text} {xs : SpannedTrees} → Message Longest i s xs j → Noted i → TreesNotes (plain_trees xs) × Noted j
  message_noted (UnaryMessage e) s = (tt, noted_next s)
  message_noted (AnyUnaryMessage e) s = (tt, noted_next s)
  message_noted (BinaryMessage e x) s = let g = argument_noted x (noted_next s) in ((g.0, tt), g.1)
  message_noted (KeywordMessage d) s = parts_noted d s
  message_noted (AnyKeywordMessage d) s = any_noted d s

  items_noted : {i j : Input} {ts : SpannedTrees} → Items Longest i ts j → Noted i → TreesNotes (plain_trees ts) × Noted j
  items_noted (NoItems n) s = (tt, s)
  items_noted (OneItem d r) s =
      let g = expression_noted d s in
      let h = further_noted r g.1 in
      ((g.0, h.0), h.1)

  further_noted : {i j : Input} {ts : SpannedTrees} → FurtherItems Longest i ts j → Noted i → TreesNotes (plain_trees ts) × Noted j
  further_noted (NextItem e d) s = items_noted d (noted_next s)
  further_noted (LastItem n) s = (tt, s)

  body_noted : {i j : Input} {ps ds : List Declared} {ss : SpannedStatements} → BlockBody Longest i ps ds ss j → Noted i → LinesNotes (plain_statements ss) × Noted j
  body_noted (WithoutParameters n d) s = sequence_noted d s
  body_noted (ParametersAlone e p c) s = (tt, parameters_noted p s)
  body_noted (WithParameters e p c d) s = sequence_noted d (noted_next (parameters_noted p s))

  sequence_noted : {i j : Input} {ds : List Declared} {ss : SpannedStatements} → Sequence Longest i ds ss j → Noted i → LinesNotes (plain_statements ss) × Noted j
  sequence_noted (Sequenced t b) s = statements_noted b (temporaries_noted t s)

  statements_noted : {i j : Input} {ss : SpannedStatements} → Statements Longest i ss j → Noted i → LinesNotes (plain_statements ss) × Noted j
  statements_noted (BlankPeriod e b) s = statements_noted b (noted_next s)
  statements_noted (NoMore n) s = (tt, s)
  statements_noted (Returned e d f) s =
      let g = expression_noted d (noted_next s) in
      let h = finish_noted f g.1 in
      ((h.0, g.0, tt), h.1)
  statements_noted (AnyStatement e a) s = let h = after_noted a (noted_next s) in ((h.0, tt, h.1), h.2)
  statements_noted (OneStatement d a) s =
      let g = expression_noted d s in
      let h = after_noted a g.1 in
      ((h.0, g.0, h.1), h.2)

  after_noted : {i j : Input} {n : Notes} {ss : SpannedStatements} → After Longest i n ss j → Noted i → AllNotes n × LinesNotes (plain_statements ss) × Noted j
  after_noted (Ended e b) s =
      let after = noted_next s in
      let g = statements_noted b (noted_clear after) in
      (after.held, g.0, g.1)
  after_noted (Unended n) s = (s.held, tt, noted_clear s)

  finish_noted : {i j : Input} {n : Notes} → Finish Longest i n j → Noted i → AllNotes n × Noted j
  finish_noted (EndedReturn e p) s = let after = noted_next s in (after.held, periods_noted p (noted_clear after))
  finish_noted (UnendedReturn n) s = (s.held, noted_clear s)

-- the comments of a tree are those of the pattern that it is
given_comments : (s : SelectorLike Text) (ps : PatternsOf Text) → AllHaveComments ps → AllHaveComments (arguments_like s ps)
given_comments (this_selector n) ps h = h
given_comments (any_unary m) ps h = h
given_comments (of_keywords ks) ps h = h
given_comments (any_message m) ps h = tt

mutual
  pattern_comments : (t : TreeOf Text) → HasNotes t → HasComments (pattern_of t)
  pattern_comments (var n) h = by (is_meta n)
    where
      by : (b : Bool) → HasComments (if b then meta (operand_meta n) else var_like n)
      by true = tt
      by false = tt
  pattern_comments (literal l) h = tt
  pattern_comments (send r s ts) h = (pattern_comments r h.0, given_comments (selector_like s) (patterns_in ts) (patterns_comments ts h.1))
  pattern_comments (cascade r ms) h = (pattern_comments r h.0, messages_comments ms h.1)
  pattern_comments (assign n t) h = pattern_comments t h
  pattern_comments (block ps ts ss e) h = (statements_comments ss h.0, h.1)
  pattern_comments (brace ts) h = patterns_comments ts h
  pattern_comments (return t) h = pattern_comments t h

  patterns_comments : (ts : TreesOf Text) → TreesNotes ts → AllHaveComments (patterns_in ts)
  patterns_comments no_trees h = tt
  patterns_comments (more_trees t ts) h = (pattern_comments t h.0, patterns_comments ts h.1)

  messages_comments : (ms : MessagesOf Text) → MessagesNotes ms → MessagesHaveComments (messages_in ms)
  messages_comments no_messages h = tt
  messages_comments (more_messages s ts ms) h = (given_comments (selector_like s) (patterns_in ts) (patterns_comments ts h.0), messages_comments ms h.1)

  statements_comments : (ss : StatementsOf Text) → LinesNotes ss → StatementsHaveComments (statements_in ss)
  statements_comments no_statements h = tt
  statements_comments (more_statements c t ss) h = (h.0, pattern_comments t h.1, statements_comments ss h.2)

-- of a pattern that a text spells
pub spelled_comments : (text : Text) (tree : SpannedTree) → SpellsPatternAt Second text tree → HasComments (pattern_of (plain_tree tree))
spelled_comments text tree s = pattern_comments (plain_tree tree) (expression_noted s.grammar.expression (noted_lexed Second text s.tokens s.lexed)).0
