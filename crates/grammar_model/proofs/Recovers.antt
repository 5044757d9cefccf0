-- What the machine reads to the end, the grammar spells.
use Rattle.std.proofs.Common.{◌≡◌, ℕ, zero, suc, ◌+◌, ◌*◌, ◌≤◌, Bool, true, List, [], ◌∷◌, ◌++◌, length, Some, None, refl, ap, sym, ◌∙◌, arith, le_refl, subst, ◌⊎◌, inl, inr}
use Rattle.std.specs.Prelude.{Option}
use Rattle.std.specs.Option.{option_map_or}
use Rattle.tree_model.specs.Tree.{Notes}
use Rattle.grammar_model.specs.Terminal.{Text, Ordinary, Super, KeywordKind, BinaryKind, Sign, Bar, Group, BlockStart, BraceStart, ArrayStart, BytesStart, GroupEnd, BlockEnd, BraceEnd, Terminal, Name, Keyword, Binary, Numeral, Constant, Opens, Closes, Assignment, Colon, Semicolon, Period, Caret, OperandMeta, AnyName, StatementMeta, AnyExpression, MessageMeta}
use Rattle.grammar_model.specs.Input.{Lexeme, lex, Input, first_kind, others, kind_of, from_of, next, back}
use Rattle.grammar_model.specs.Spanned.{Declared, SpannedTree, Var, Literal, Cascade, Assign, Block, Brace, Return, SpannedTrees, NoTrees, MoreTrees, one_tree, NoMessages, MoreMessages, SpannedStatements, NoStatements, MoreStatements}
use Rattle.grammar_model.specs.Chain.{Chain, Waiting, Alone, Told, whole, sent, IsWhole}
use Rattle.grammar_model.specs.Ahead.{Longest, NoBinary, NoColon, NoUnary, NoKey}
use Rattle.grammar_model.specs.Grammar.{Periods, OnePeriod, NoPeriods, Names, OneName, NoNames, Parameters, OneParameter, NoParameters, Temporaries, Declares, DeclaresNone, Expression, Assigned, Simple, Operand, Variable, SuperName, LiteralOperand, Grouped, BlockOperand, BraceOperand, Unaries, OneUnary, NoUnaries, Binaries, OneBinary, NoBinaries, Keywords, OneKeywords, NoKeywords, Parts, LastPart, FurtherPart, Argument, BinaryArgument, KeywordArgument, ArgumentOfKeyword, Cascaded, NoCascade, OneCascade, Messages, OneMessage, LastMessage, Message, UnaryMessage, BinaryMessage, KeywordMessage, Items, NoItems, OneItem, FurtherItems, NextItem, LastItem, BlockBody, WithoutParameters, ParametersAlone, WithParameters, Sequence, Sequenced, Statements, BlankPeriod, NoMore, Returned, OneStatement, After, Ended, Unended, Finish, EndedReturn, UnendedReturn, MetaOperand, AnyUnary, AnyUnaryMessage, AnyStatement, AnyMessage, WholeMessage, AnyKeywords, AnyKeywordMessage}
use Rattle.grammar_model.specs.Machine.{Part, Stack, TheExpression, TheArgument, TheKeywordArgument, BehindSuper, BehindSuperOfKeyword, BehindSuperOfBinary, KeywordMessages, TheMessage, TheCascade, TheItems, FurtherItem, TheBlock, TheParameter, TheParameters, TheSequence, TheNames, TheStatements, BehindStatement, BehindReturn, Awaits, step, run, wish, may_start, At, AnyArgument, BehindAnyMessage}
use Rattle.grammar_model.proofs.Reading.{reads, Position, InExpression, InKeyword, InBinary, operand_part, unary_part, argument_part, binary_part, cascade_part, is_told, IsLiteralStart, step-operand, step-unary, step-any_unary, step-argument, step-binary, step-keyword, cascade_part-sent, unary_end-argument, unary_end-expression, unary_end-binary, argument_end, binary_end, cascade_end, keywords_end, MayBeOperand, reads_name, reads_super, as_statement, as_item, as_sequence, as_statements, step-any_message, any_end}
use Rattle.grammar_model.proofs.Recognizes.{position_begins, ends_Unaries, ends_Binaries, ends_Parts, ends_Keywords, reads_target, ends_AnyMessage}
use Rattle.grammar_model.proofs.RecoversLiterals.{Got, place, Shut, closed, block_closed, brace_closed, stuck, gets_LiteralAt}

-- From some place on X spells a chain, and the rest is read by the part that belongs to it.
record GotChain (X : Chain → Input → Type 0) (part : Chain → Part) (ts : List Lexeme) (ss : Stack) : Type 0 where
  what : Chain
  stop : Input
  spells : X what stop
  shorter : length stop.rest ≤ length ts
  goes_on : run (part what ∷ ss) stop.rest ≡ None

-- whatever else is told where no step is
other_default : {A : Type 0} {B : Type 0} (f : A → Option B) (o : Option A) (a b : B) → option_map_or f o (Some a) ≡ None → option_map_or f o (Some b) ≡ None
other_default f None a b h = cc
other_default f (Some x) a b h = h

-- if super awaits its message, this holds of the next token
abbrev IfWaiting : (Terminal → Type 0) → Chain → Terminal → Type 0
IfWaiting P (Waiting f e n) k = P k
IfWaiting P c k = Unit {0}

-- what always holds holds then
if_waiting : (P : Terminal → Type 0) (c : Chain) (k : Terminal) → P k → IfWaiting P c k
if_waiting P (Waiting f e n) k h = h
if_waiting P (Alone t) k h = tt
if_waiting P (Told f e r s xs) k h = tt

-- behind a message super awaits none
if_waiting-sent : (P : Terminal → Type 0) (f e : ℕ) (c : Chain) (s : Text) (xs : SpannedTrees) (k : Terminal) → IfWaiting P (sent f e c s xs) k
if_waiting-sent P f e (Waiting a b n) s xs k = tt
if_waiting-sent P f e (Alone t) s xs k = tt
if_waiting-sent P f e (Told a b r t ys) s xs k = tt

-- super awaits a message behind binary messages only where it did before them
if_waiting-Binaries : (P : Terminal → Type 0) {f : ℕ} {i j : Input} {r u : Chain} → Binaries Longest f r i u j → IfWaiting P r (kind_of i) → IfWaiting P u (kind_of j)
if_waiting-Binaries P (OneBinary e x d) h = if_waiting-Binaries P d (if_waiting-sent P _ _ _ _ _ _)
if_waiting-Binaries P (NoBinaries n) h = h

-- the same for a keyword message
if_waiting-Keywords : (P : Terminal → Type 0) {f : ℕ} {i j : Input} {r u : Chain} → Keywords Longest f r i u j → IfWaiting P r (kind_of i) → IfWaiting P u (kind_of j)
if_waiting-Keywords P (OneKeywords d) h = if_waiting-sent P _ _ _ _ _ _
if_waiting-Keywords P (AnyKeywords d) h = if_waiting-sent P _ _ _ _ _ _
if_waiting-Keywords P (NoKeywords n) h = h

-- super can not be left without a message
super_stops : (ts : List Lexeme) (ss : Stack) → NoUnary (first_kind ts) → NoBinary (first_kind ts) → NoKey (first_kind ts) → run (BehindSuper ∷ ss) ts ≡ None → ⊥
super_stops [] ss a b c r = cc
super_stops (lex c f e (Name k m) ∷ ts) ss x y z r = x
super_stops (lex c f e (OperandMeta AnyName m) ∷ ts) ss x y z r = x
super_stops (lex c f e (Binary k m) ∷ ts) ss x y z r = y
super_stops (lex c f e (Keyword k m) ∷ ts) ss x y z r = z
super_stops (lex c f e (MessageMeta m) ∷ ts) ss x y z r = z
super_stops (lex c f e k ∷ ts) ss x y z r = cc

-- super as a keyword's argument
super_stops-keyword : (ts : List Lexeme) (ss : Stack) → NoUnary (first_kind ts) → NoBinary (first_kind ts) → run (BehindSuperOfKeyword ∷ ss) ts ≡ None → ⊥
super_stops-keyword [] ss a b r = cc
super_stops-keyword (lex c f e (Name k m) ∷ ts) ss x y r = x
super_stops-keyword (lex c f e (OperandMeta AnyName m) ∷ ts) ss x y r = x
super_stops-keyword (lex c f e (Binary k m) ∷ ts) ss x y r = y
super_stops-keyword (lex c f e k ∷ ts) ss x y r = cc

-- super as a binary message's argument
super_stops-binary : (ts : List Lexeme) (ss : Stack) → NoUnary (first_kind ts) → run (BehindSuperOfBinary ∷ ss) ts ≡ None → ⊥
super_stops-binary [] ss a r = cc
super_stops-binary (lex c f e (Name k m) ∷ ts) ss x r = x
super_stops-binary (lex c f e (OperandMeta AnyName m) ∷ ts) ss x r = x
super_stops-binary (lex c f e k ∷ ts) ss x r = cc

-- super has its message behind an expression
whole_expression : (u : Chain) (ts : List Lexeme) (ss : Stack) → IfWaiting NoUnary u (first_kind ts) → IfWaiting NoBinary u (first_kind ts) → NoKey (first_kind ts) → run (cascade_part u ∷ ss) ts ≡ None → IsWhole u
whole_expression (Waiting f e n) ts ss a b c r = super_stops ts ss a b c r
whole_expression (Alone t) ts ss a b c r = tt
whole_expression (Told f e t s xs) ts ss a b c r = tt

-- super has its message behind a keyword's argument
whole_keyword : (u : Chain) (ts : List Lexeme) (ss : Stack) → IfWaiting NoUnary u (first_kind ts) → NoBinary (first_kind ts) → run (argument_part u ∷ ss) ts ≡ None → IsWhole u
whole_keyword (Waiting f e n) ts ss a b r = super_stops-keyword ts ss a b r
whole_keyword (Alone t) ts ss a b r = tt
whole_keyword (Told f e t s xs) ts ss a b r = tt

-- super has its message behind a binary message's argument
whole_binary : (u : Chain) (ts : List Lexeme) (ss : Stack) → NoUnary (first_kind ts) → run (unary_part InBinary u ∷ ss) ts ≡ None → IsWhole u
whole_binary (Waiting f e n) ts ss a r = super_stops-binary ts ss a r
whole_binary (Alone t) ts ss a r = tt
whole_binary (Told f e t s xs) ts ss a r = tt

-- the part behind an operand does not hang on the operand
alone : (p : Position) (t t' : SpannedTree) → unary_part p (Alone t) ≡ unary_part p (Alone t')
alone InExpression t t' = refl
alone InKeyword t t' = refl
alone InBinary t t' = refl

-- an operand is missing at the end of the tokens
operand_missing : (p : Position) (ss : Stack) → run (operand_part p ∷ ss) [] ≡ None → ⊥
operand_missing InExpression ss r = cc
operand_missing InKeyword ss r = cc
operand_missing InBinary ss r = cc

-- what reads binary messages, in an expression and in a keyword's argument
record BinaryReader : Type 0 where
  part : Chain → Part
  steps : (r : Chain) (c : BinaryKind) (n : Text) (ss : Stack) (f e : ℕ) (s : Text) (xs : SpannedTrees) → step (part r ∷ ss) (Binary c n) ≡ Some (TheArgument ∷ part (sent f e r s xs) ∷ ss)
  alike : (r : Chain) (f e : ℕ) (xs : SpannedTrees) (f' e' : ℕ) (xs' : SpannedTrees) (s s' : Text) → part (sent f e r s xs) ≡ part (sent f' e' r s' xs')

-- the part behind a binary message does not hang on the message
binary_alike : (r : Chain) (f e : ℕ) (xs : SpannedTrees) (f' e' : ℕ) (xs' : SpannedTrees) (s s' : Text) → binary_part (sent f e r s xs) ≡ binary_part (sent f' e' r s' xs')
binary_alike (Waiting a b m) f e xs f' e' xs' s s' = refl
binary_alike (Alone t) f e xs f' e' xs' s s' = refl
binary_alike (Told a b r m ys) f e xs f' e' xs' s s' = refl

-- the same in a keyword's argument
argument_alike : (r : Chain) (f e : ℕ) (xs : SpannedTrees) (f' e' : ℕ) (xs' : SpannedTrees) (s s' : Text) → argument_part (sent f e r s xs) ≡ argument_part (sent f' e' r s' xs')
argument_alike (Waiting a b m) f e xs f' e' xs' s s' = refl
argument_alike (Alone t) f e xs f' e' xs' s s' = refl
argument_alike (Told a b r m ys) f e xs f' e' xs' s s' = refl

-- binary messages of an expression
abbrev of_expression : BinaryReader
of_expression = record { part = binary_part; steps = step-binary; alike = binary_alike }

-- binary messages of a keyword's argument
abbrev of_keyword : BinaryReader
of_keyword = record { part = argument_part; steps = step-argument; alike = argument_alike }

-- periods, which the grammar spells where the machine reads it
gets_Periods : (h : Notes) (l : ℕ) (ts : List Lexeme) (ss : Stack) → run (BehindReturn ∷ ss) ts ≡ None → Got {A = Unit {0}} (λ _ j. Periods Longest (place h l ts) j) ts ss
gets_Periods h l [] ss r = record { what = tt; stop = place h l []; spells = NoPeriods tt; shorter = le_refl _; goes_on = r }
gets_Periods h l (lex c f e Period ∷ ts) ss r = let g = gets_Periods (h ++ c) e ts ss r in record { what = tt; stop = g.stop; spells = OnePeriod refl g.spells; shorter = omega (arith, g.shorter); goes_on = g.goes_on }
gets_Periods h l (lex c f e k ∷ ts) ss r = record { what = tt; stop = place h l (lex c f e k ∷ ts); spells = NoPeriods tt; shorter = le_refl _; goes_on = r }

-- what stands behind a return, which the grammar spells where the machine reads it
gets_Finish : (h : Notes) (l : ℕ) (ts : List Lexeme) (ss : Stack) → run (BehindReturn ∷ ss) ts ≡ None → Got (λ c j. Finish Longest (place h l ts) c j) ts ss
gets_Finish h l [] ss r = record { what = h; stop = place [] l []; spells = UnendedReturn tt; shorter = le_refl _; goes_on = r }
gets_Finish h l (lex c f e Period ∷ ts) ss r = let g = gets_Periods [] e ts ss r in record { what = h ++ c; stop = g.stop; spells = EndedReturn refl g.spells; shorter = omega (arith, g.shorter); goes_on = g.goes_on }
gets_Finish h l (lex c f e k ∷ ts) ss r = record { what = h; stop = place [] l (lex c f e k ∷ ts); spells = UnendedReturn tt; shorter = le_refl _; goes_on = r }

-- names and the bar behind them
pub gets_Names : (h : Notes) (l : ℕ) (ts : List Lexeme) (ss : Stack) → run (TheNames ∷ ss) ts ≡ None → Got (λ ds j. (m : Input) × (s : Text) × Names Longest (place h l ts) ds m × (kind_of m ≡ Binary Bar s) × (j ≡ next m)) ts (TheStatements ∷ ss)
gets_Names h l [] ss r = cc
gets_Names h l (lex c f e (Name k n) ∷ ts) ss r =
    let g = gets_Names (h ++ c) e ts ss r in
    record { what = record { name = n; from = f } ∷ g.what; stop = g.stop; spells = (g.spells.0, g.spells.1, OneName refl g.spells.2, g.spells.3, g.spells.4); shorter = omega (arith, g.shorter); goes_on = g.goes_on }
gets_Names h l (lex c f e (Binary Bar s) ∷ ts) ss r = record { what = []; stop = place (h ++ c) e ts; spells = (place h l (lex c f e (Binary Bar s) ∷ ts), s, NoNames tt, refl, refl); shorter = omega arith; goes_on = r }
gets_Names h l (lex c f e k ∷ ts) ss r = cc

-- temporaries or none, which the grammar spells where the machine reads it
gets_Temporaries : (h : Notes) (l : ℕ) (ts : List Lexeme) (ss : Stack) → run (TheSequence ∷ ss) ts ≡ None → Got (λ ds j. Temporaries Longest (place h l ts) ds j) ts (TheStatements ∷ ss)
gets_Temporaries h l (lex c f e (Binary Bar s) ∷ ts) ss r =
    let g = gets_Names (h ++ c) e ts ss r in
    record { what = g.what; stop = next g.spells.0; spells = Declares refl g.spells.2 g.spells.3; shorter = omega (arith, g.shorter, ap (λ (j : Input). length j.rest) g.spells.4); goes_on = subst (λ (j : Input). run (TheStatements ∷ ss) j.rest ≡ None) g.spells.4 g.goes_on }
gets_Temporaries h l ts ss r = record { what = []; stop = place h l ts; spells = DeclaresNone tt; shorter = le_refl _; goes_on = sym (as_statements ts ss tt) ∙ r }

mutual
  -- the parameters of a block, which the grammar spells where the machine reads it
  gets_Parameters : (h : Notes) (l : ℕ) (ts : List Lexeme) (ss : Stack) → run (TheParameters ∷ ss) ts ≡ None → Got (λ ds j. Parameters Longest (place h l ts) ds j) ts (TheParameters ∷ ss)
  gets_Parameters h l [] ss r = record { what = []; stop = place h l []; spells = NoParameters tt; shorter = le_refl _; goes_on = r }
  gets_Parameters h l (lex c f e Colon ∷ ts) ss r = gets_Parameter h l c f e ts ss r
  gets_Parameters h l (lex c f e k ∷ ts) ss r = record { what = []; stop = place h l (lex c f e k ∷ ts); spells = NoParameters tt; shorter = le_refl _; goes_on = r }

  -- a parameter behind its colon, which the grammar spells where the machine reads it
  gets_Parameter : (h : Notes) (l : ℕ) (c : Notes) (f e : ℕ) (ts : List Lexeme) (ss : Stack) → run (TheParameter ∷ ss) ts ≡ None → Got (λ ds j. Parameters Longest (place h l (lex c f e Colon ∷ ts)) ds j) (lex c f e Colon ∷ ts) (TheParameters ∷ ss)
  gets_Parameter h l c f e [] ss r = cc
  gets_Parameter h l c f e (lex c' f' e' (Name k n) ∷ ts) ss r =
      let g = gets_Parameters ((h ++ c) ++ c') e' ts ss r in
      record { what = record { name = n; from = f' } ∷ g.what; stop = g.stop; spells = OneParameter refl refl g.spells; shorter = omega (arith, g.shorter); goes_on = g.goes_on }
  gets_Parameter h l c f e (lex c' f' e' k ∷ ts) ss r = cc

-- parameters end before other tokens
ends_Parameters : {i j : Input} {ds : List Declared} → Parameters Longest i ds j → NoColon (kind_of j)
ends_Parameters (OneParameter e f d) = ends_Parameters d
ends_Parameters (NoParameters h) = h

-- behind parameters there is the closing bracket or a bar
behind_parameters : (ts : List Lexeme) (ss : Stack) → run (TheParameters ∷ Awaits BlockEnd ∷ ss) ts ≡ None → NoColon (first_kind ts) → (Shut (Closes BlockEnd) ts ss × (run (Awaits BlockEnd ∷ ss) ts ≡ None)) ⊎ ((s : Text) × Shut (Binary Bar s) ts (TheSequence ∷ Awaits BlockEnd ∷ ss))
behind_parameters [] ss r c = cc
behind_parameters (lex c f e (Closes BlockEnd) ∷ ts) ss r n = inl (record { is = refl; shorter = refl; goes_on = r }, r)
behind_parameters (lex c f e (Binary Bar s) ∷ ts) ss r n = inr (s, record { is = refl; shorter = refl; goes_on = r })
behind_parameters (lex c f e Colon ∷ ts) ss r n = absurd n
behind_parameters (lex c f e k ∷ ts) ss r n = cc

-- unary messages, which the grammar spells where the machine reads it
gets_Unaries : (p : Position) (f0 : ℕ) (r : Chain) (h : Notes) (l : ℕ) (ts : List Lexeme) (ss : Stack) → run (unary_part p r ∷ ss) ts ≡ None → GotChain (λ u j. Unaries Longest f0 r (place h l ts) u j) (unary_part p) ts ss
gets_Unaries p f0 r h l [] ss q = record { what = r; stop = place h l []; spells = NoUnaries tt; shorter = le_refl _; goes_on = q }
gets_Unaries p f0 r h l (lex c f e (Name k m) ∷ ts) ss q =
    let g = gets_Unaries p f0 (sent f0 e r m NoTrees) (h ++ c) e ts ss (sym (reads (unary_part p r ∷ ss) _ (lex c f e (Name k m) ∷ ts) (Name k m) refl tt (step-unary p r k m ss f0 e m NoTrees)) ∙ q) in
    record { what = g.what; stop = g.stop; spells = OneUnary refl g.spells; shorter = omega (arith, g.shorter); goes_on = g.goes_on }
gets_Unaries p f0 r h l (lex c f e (OperandMeta AnyName m) ∷ ts) ss q =
    let g = gets_Unaries p f0 (sent f0 e r m NoTrees) (h ++ c) e ts ss (sym (reads (unary_part p r ∷ ss) _ (lex c f e (OperandMeta AnyName m) ∷ ts) (OperandMeta AnyName m) refl tt (step-any_unary p r m ss f0 e m NoTrees)) ∙ q) in
    record { what = g.what; stop = g.stop; spells = AnyUnary refl g.spells; shorter = omega (arith, g.shorter); goes_on = g.goes_on }
gets_Unaries p f0 r h l (lex c f e k ∷ ts) ss q = record { what = r; stop = place h l (lex c f e k ∷ ts); spells = NoUnaries tt; shorter = le_refl _; goes_on = q }

-- no keyword follows any message
any_stops : (ts : List Lexeme) (told : Bool) (ss : Stack) → run (BehindAnyMessage told ∷ ss) ts ≡ None → NoKey (first_kind ts)
any_stops [] told ss r = tt
any_stops (lex c f e (Keyword k m) ∷ ts) told ss r = cc
any_stops (lex c f e (MessageMeta m) ∷ ts) told ss r = cc
any_stops (lex c f e k ∷ ts) told ss r = tt

-- any message, the first token of which was read
gets_AnyMessage : (told : Bool) (h : Notes) (l : ℕ) (c : Notes) (f e : ℕ) (m : Text) (ts : List Lexeme) (ss : Stack) → run (AnyArgument ∷ BehindAnyMessage told ∷ ss) ts ≡ None →
    Got {A = Text × SpannedTrees} (λ v j. AnyMessage Longest (place h l (lex c f e (MessageMeta m) ∷ ts)) v.0 v.1 j) ts (KeywordMessages told ∷ ss)
gets_AnyMessage told h l c f e m [] ss r = cc
gets_AnyMessage told h l c f e m (lex c' f' e' (OperandMeta AnyExpression n) ∷ ts) ss r =
    record { what = (m, one_tree (Var f' e' n)); stop = place ((h ++ c) ++ c') e' ts; spells = WholeMessage refl refl (any_stops ts told ss r); shorter = omega arith; goes_on = sym (any_end ts told ss (any_stops ts told ss r)) ∙ r }
gets_AnyMessage told h l c f e m (lex c' f' e' k ∷ ts) ss r = cc

-- some tree
abbrev nowhere : SpannedTree
nowhere = Var 0 0 []

-- what stands behind the binary messages of an expression, its unary messages and its operand
record KeywordTail (f : ℕ) (r : Chain) (i : Input) (t : SpannedTree) (j : Input) : Type 0 where
  chain : Chain
  middle : Input
  keywords : Keywords Longest f r i chain middle
  cascade : Cascaded Longest chain middle t j

-- what stands behind the unary messages
record BinaryTail (f : ℕ) (r : Chain) (i : Input) (t : SpannedTree) (j : Input) : Type 0 where
  chain : Chain
  middle : Input
  binaries : Binaries Longest f r i chain middle
  tail : KeywordTail f chain middle t j

-- what stands behind the operand
record UnaryTail (f : ℕ) (r : Chain) (i : Input) (t : SpannedTree) (j : Input) : Type 0 where
  chain : Chain
  middle : Input
  unaries : Unaries Longest f r i chain middle
  tail : BinaryTail f chain middle t j

-- what stands behind the operand of a keyword's argument
record ArgumentTail (f : ℕ) (r : Chain) (i : Input) (b : Chain) (j : Input) : Type 0 where
  chain : Chain
  middle : Input
  unaries : Unaries Longest f r i chain middle
  binaries : Binaries Longest f chain middle b j
  is_whole : IsWhole b

-- an operand and what stands behind it
simple : {i k j : Input} {r : Chain} {t : SpannedTree} → MayBeOperand InExpression i.rest → Operand Longest i r k → UnaryTail (from_of i) r k t j → Expression Longest i t j
simple plain o u = Simple plain o u.unaries u.tail.binaries u.tail.tail.keywords u.tail.tail.cascade

-- super has its message where an expression ends
cascade_whole : {f : ℕ} {i j : Input} {r u : Chain} → Keywords Longest f r i u j → IfWaiting NoUnary r (kind_of i) → NoBinary (kind_of i) → (ss : Stack) → run (cascade_part u ∷ ss) j.rest ≡ None → IsWhole u
cascade_whole {i} {j} {r} {u} d name binary ss q =
    whole_expression u j.rest ss (if_waiting-Keywords NoUnary d name) (if_waiting-Keywords NoBinary d (if_waiting NoBinary r (kind_of i) binary)) (ends_Keywords d) q

-- super has its message where a keyword's argument ends
argument_whole : {f : ℕ} {i j : Input} {r u : Chain} → Binaries Longest f r i u j → NoUnary (kind_of i) → (ss : Stack) → run (argument_part u ∷ ss) j.rest ≡ None → IsWhole u
argument_whole {i} {j} {r} {u} d name ss q = whole_keyword u j.rest ss (if_waiting-Binaries NoUnary d (if_waiting NoUnary r (kind_of i) name)) (ends_Binaries d) q

-- a literal where an operand is expected
literal_operand : (p : Position) (h : Notes) (l : ℕ) (ts : List Lexeme) (ss : Stack) → IsLiteralStart (first_kind ts) → run (operand_part p ∷ ss) ts ≡ None → GotChain (λ r j. (suc (length j.rest) ≤ length ts) × Operand Longest (place h l ts) r j) (unary_part p) ts ss
literal_operand p h l ts ss s r =
    let g = gets_LiteralAt (4 * length ts + 1) h l ts (operand_part p ∷ ss) (unary_part p (Alone nowhere) ∷ ss) (position_begins p nowhere ss) s (le_refl _) r in
    let t = Literal (from_of (place h l ts)) g.stop.last g.what in
    record { what = Alone t; stop = g.stop; spells = (g.spells.0, LiteralOperand g.spells.1); shorter = g.shorter; goes_on = subst (λ q. run (q ∷ ss) g.stop.rest ≡ None) (alone p nowhere t) g.goes_on }

mutual
  -- an expression, which the grammar spells where the machine reads it
  pub gets_Expression : (n : ℕ) (h : Notes) (l : ℕ) (ts : List Lexeme) (ss : Stack) → 16 * length ts + 5 ≤ n → run (TheExpression ∷ ss) ts ≡ None → Got (λ t j. Expression Longest (place h l ts) t j) ts ss
  gets_Expression zero h l ts ss le r = absurd (omega arith)
  gets_Expression (suc n) h l (lex c f e (Name k m) ∷ lex c' f' e' Assignment ∷ ts) ss le r =
      let g = gets_Expression n ((h ++ c) ++ c') e' ts ss (omega arith) (sym (reads_target k (lex c f e (Name k m) ∷ lex c' f' e' Assignment ∷ ts) m ss refl refl) ∙ r) in
      record { what = Assign f g.stop.last m g.what; stop = g.stop; spells = Assigned refl refl g.spells; shorter = omega (arith, g.shorter); goes_on = g.goes_on }
  gets_Expression (suc n) h l ts ss le r = gets_Simple n h l ts ss tt (omega arith) r

  -- an expression that is no assignment, which the grammar spells where the machine reads it
  gets_Simple : (n : ℕ) (h : Notes) (l : ℕ) (ts : List Lexeme) (ss : Stack) → MayBeOperand InExpression ts → 16 * length ts + 4 ≤ n → run (TheExpression ∷ ss) ts ≡ None → Got (λ t j. Expression Longest (place h l ts) t j) ts ss
  gets_Simple zero h l ts ss plain le r = absurd (omega arith)
  gets_Simple (suc n) h l ts ss plain le r =
      let o = gets_Operand n InExpression h l ts ss plain (omega arith) r in
      let g = gets_UnaryTail n (from_of (place h l ts)) o.what o.stop.held o.stop.last o.stop.rest ss (omega (arith, o.spells.0)) o.goes_on in
      record { what = g.what; stop = g.stop; spells = simple plain o.spells.1 g.spells; shorter = omega (arith, o.shorter, g.shorter); goes_on = g.goes_on }

  -- what stands behind the operand of an expression, which the grammar spells where the machine reads it
  gets_UnaryTail : (n : ℕ) (f : ℕ) (r : Chain) (h : Notes) (l : ℕ) (ts : List Lexeme) (ss : Stack) → 16 * length ts + 6 ≤ n → run (unary_part InExpression r ∷ ss) ts ≡ None → Got (λ t j. UnaryTail f r (place h l ts) t j) ts ss
  gets_UnaryTail zero f r h l ts ss le q = absurd (omega arith)
  gets_UnaryTail (suc n) f r h l ts ss le q =
      let u = gets_Unaries InExpression f r h l ts ss q in
      let g = gets_BinaryTail n f u.what u.stop.held u.stop.last u.stop.rest ss (ends_Unaries u.spells) (omega (arith, u.shorter)) (sym (unary_end-expression u.stop.rest u.what ss (ends_Unaries u.spells)) ∙ u.goes_on) in
      record { what = g.what; stop = g.stop; spells = record { chain = u.what; middle = u.stop; unaries = u.spells; tail = g.spells }; shorter = omega (arith, u.shorter, g.shorter); goes_on = g.goes_on }

  -- what stands behind its unary messages, which the grammar spells where the machine reads it
  gets_BinaryTail : (n : ℕ) (f : ℕ) (r : Chain) (h : Notes) (l : ℕ) (ts : List Lexeme) (ss : Stack) → NoUnary (first_kind ts) → 16 * length ts + 5 ≤ n → run (binary_part r ∷ ss) ts ≡ None → Got (λ t j. BinaryTail f r (place h l ts) t j) ts ss
  gets_BinaryTail zero f r h l ts ss name le q = absurd (omega arith)
  gets_BinaryTail (suc n) f r h l ts ss name le q =
      let b = gets_Binaries n of_expression f r h l ts ss (omega arith) q in
      let g = gets_KeywordTail n f b.what b.stop.held b.stop.last b.stop.rest ss (if_waiting-Binaries NoUnary b.spells (if_waiting NoUnary r (first_kind ts) name)) (ends_Binaries b.spells) (omega (arith, b.shorter)) b.goes_on in
      record { what = g.what; stop = g.stop; spells = record { chain = b.what; middle = b.stop; binaries = b.spells; tail = g.spells }; shorter = omega (arith, b.shorter, g.shorter); goes_on = g.goes_on }

  -- what stands behind its binary messages, which the grammar spells where the machine reads it
  gets_KeywordTail : (n : ℕ) (f : ℕ) (r : Chain) (h : Notes) (l : ℕ) (ts : List Lexeme) (ss : Stack) → IfWaiting NoUnary r (first_kind ts) → NoBinary (first_kind ts) → 16 * length ts + 4 ≤ n → run (binary_part r ∷ ss) ts ≡ None → Got (λ t j. KeywordTail f r (place h l ts) t j) ts ss
  gets_KeywordTail zero f r h l ts ss name binary le q = absurd (omega arith)
  gets_KeywordTail (suc n) f r h l ts ss name binary le q =
      let k = gets_Keywords n f r h l ts ss binary (omega arith) q in
      let c = gets_Cascaded n k.what k.stop.held k.stop.last k.stop.rest ss (cascade_whole k.spells name binary ss k.goes_on) (ends_Keywords k.spells) (omega (arith, k.shorter)) k.goes_on in
      record { what = c.what; stop = c.stop; spells = record { chain = k.what; middle = k.stop; keywords = k.spells; cascade = c.spells }; shorter = omega (arith, k.shorter, c.shorter); goes_on = c.goes_on }

  -- an operand, which the grammar spells where the machine reads it
  gets_Operand : (n : ℕ) (p : Position) (h : Notes) (l : ℕ) (ts : List Lexeme) (ss : Stack) → MayBeOperand p ts → 16 * length ts + 2 ≤ n → run (operand_part p ∷ ss) ts ≡ None → GotChain (λ r j. (suc (length j.rest) ≤ length ts) × Operand Longest (place h l ts) r j) (unary_part p) ts ss
  gets_Operand zero p h l ts ss plain le r = absurd (omega arith)
  gets_Operand (suc n) p h l [] ss plain le r = absurd (operand_missing p ss r)
  gets_Operand (suc n) p h l (lex c f e (Name Ordinary m) ∷ ts) ss plain le r =
      record { what = Alone (Var f e m); stop = place (h ++ c) e ts; spells = (omega arith, Variable refl); shorter = omega arith; goes_on = sym (reads_name p (lex c f e (Name Ordinary m) ∷ ts) m (Var f e m) ss plain refl) ∙ r }
  gets_Operand (suc n) p h l (lex c f e (Name Super m) ∷ ts) ss plain le r =
      record { what = Waiting f e m; stop = place (h ++ c) e ts; spells = (omega arith, SuperName refl); shorter = omega arith; goes_on = sym (reads_super p (lex c f e (Name Super m) ∷ ts) f e m ss plain refl) ∙ r }
  gets_Operand (suc n) p h l (lex c f e (OperandMeta k m) ∷ ts) ss plain le r =
      record { what = Alone (Var f e m); stop = place (h ++ c) e ts; spells = (omega arith, MetaOperand refl); shorter = omega arith; goes_on = sym (reads (operand_part p ∷ ss) (unary_part p (Alone (Var f e m)) ∷ ss) (lex c f e (OperandMeta k m) ∷ ts) (OperandMeta k m) refl tt (step-operand p (OperandMeta k m) ss (Var f e m) tt)) ∙ r }
  gets_Operand (suc n) p h l (lex c f e (Binary Sign m) ∷ ts) ss plain le r = literal_operand p h l (lex c f e (Binary Sign m) ∷ ts) ss tt r
  gets_Operand (suc n) p h l (lex c f e (Numeral k m) ∷ ts) ss plain le r = literal_operand p h l (lex c f e (Numeral k m) ∷ ts) ss tt r
  gets_Operand (suc n) p h l (lex c f e (Constant m) ∷ ts) ss plain le r = literal_operand p h l (lex c f e (Constant m) ∷ ts) ss tt r
  gets_Operand (suc n) p h l (lex c f e (Opens ArrayStart) ∷ ts) ss plain le r = literal_operand p h l (lex c f e (Opens ArrayStart) ∷ ts) ss tt r
  gets_Operand (suc n) p h l (lex c f e (Opens BytesStart) ∷ ts) ss plain le r = literal_operand p h l (lex c f e (Opens BytesStart) ∷ ts) ss tt r
  gets_Operand (suc n) p h l (lex c f e (Opens Group) ∷ ts) ss plain le r =
      let below = unary_part p (Alone nowhere) ∷ ss in
      let d = gets_Expression n (h ++ c) e ts (Awaits GroupEnd ∷ below) (omega arith) (sym (reads (operand_part p ∷ ss) (TheExpression ∷ Awaits GroupEnd ∷ below) (lex c f e (Opens Group) ∷ ts) (Opens Group) refl tt (step-operand p (Opens Group) ss nowhere tt)) ∙ r) in
      let s = closed d.stop.rest below d.goes_on in
      record { what = Alone d.what; stop = next d.stop; spells = (omega (arith, d.shorter, s.shorter), Grouped refl d.spells s.is); shorter = omega (arith, d.shorter, s.shorter); goes_on = subst (λ q. run (q ∷ ss) (others d.stop.rest) ≡ None) (alone p nowhere d.what) s.goes_on }
  gets_Operand (suc n) p h l (lex c f e (Opens BlockStart) ∷ ts) ss plain le r =
      let below = unary_part p (Alone nowhere) ∷ ss in
      let b = gets_BlockBody n [] e ts below (omega arith) (sym (reads (operand_part p ∷ ss) (TheBlock ∷ Awaits BlockEnd ∷ below) (lex c f e (Opens BlockStart) ∷ ts) (Opens BlockStart) refl tt (step-operand p (Opens BlockStart) ss nowhere tt)) ∙ r) in
      let s = block_closed b.stop.rest below b.goes_on in
      let m = next b.stop in
      let t = Block f m.last b.what.0 b.what.1 b.what.2 m.held in
      record { what = Alone t; stop = back (place (h ++ c) e ts) m; spells = (omega (arith, b.shorter, s.shorter), BlockOperand refl b.spells s.is); shorter = omega (arith, b.shorter, s.shorter); goes_on = subst (λ q. run (q ∷ ss) (others b.stop.rest) ≡ None) (alone p nowhere t) s.goes_on }
  gets_Operand (suc n) p h l (lex c f e (Opens BraceStart) ∷ ts) ss plain le r =
      let below = unary_part p (Alone nowhere) ∷ ss in
      let d = gets_Items n (h ++ c) e ts (Awaits BraceEnd ∷ below) (omega arith) (sym (reads (operand_part p ∷ ss) (TheItems ∷ Awaits BraceEnd ∷ below) (lex c f e (Opens BraceStart) ∷ ts) (Opens BraceStart) refl tt (step-operand p (Opens BraceStart) ss nowhere tt)) ∙ r) in
      let s = brace_closed d.stop.rest below d.goes_on in
      let t = Brace f (next d.stop).last d.what in
      record { what = Alone t; stop = next d.stop; spells = (omega (arith, d.shorter, s.shorter), BraceOperand refl d.spells s.is); shorter = omega (arith, d.shorter, s.shorter); goes_on = subst (λ q. run (q ∷ ss) (others d.stop.rest) ≡ None) (alone p nowhere t) s.goes_on }
  gets_Operand (suc n) p h l (lex c f e k ∷ ts) ss plain le r = absurd (stuck (operand_part p ∷ ss) c f e k ts (step-operand p k ss nowhere tt) r)

  -- binary messages, which the grammar spells where the machine reads it
  gets_Binaries : (n : ℕ) (b : BinaryReader) (f0 : ℕ) (r : Chain) (h : Notes) (l : ℕ) (ts : List Lexeme) (ss : Stack) → 16 * length ts + 1 ≤ n → run (b.part r ∷ ss) ts ≡ None → GotChain (λ u j. Binaries Longest f0 r (place h l ts) u j) b.part ts ss
  gets_Binaries zero b f0 r h l ts ss le q = absurd (omega arith)
  gets_Binaries (suc n) b f0 r h l [] ss le q = record { what = r; stop = place h l []; spells = NoBinaries tt; shorter = le_refl _; goes_on = q }
  gets_Binaries (suc n) b f0 r h l (lex c f e (Binary k m) ∷ ts) ss le q =
      let a = gets_Argument n (h ++ c) e ts (b.part (sent 0 0 r m NoTrees) ∷ ss) (omega arith) (sym (reads (b.part r ∷ ss) _ (lex c f e (Binary k m) ∷ ts) (Binary k m) refl tt (b.steps r k m ss 0 0 m NoTrees)) ∙ q) in
      let g = gets_Binaries n b f0 (sent f0 a.stop.last r m (one_tree a.what)) a.stop.held a.stop.last a.stop.rest ss (omega (arith, a.shorter)) (subst (λ x. run (x ∷ ss) a.stop.rest ≡ None) (b.alike r 0 0 NoTrees f0 a.stop.last (one_tree a.what) m m) a.goes_on) in
      record { what = g.what; stop = g.stop; spells = OneBinary refl a.spells g.spells; shorter = omega (arith, a.shorter, g.shorter); goes_on = g.goes_on }
  gets_Binaries (suc n) b f0 r h l (lex c f e k ∷ ts) ss le q = record { what = r; stop = place h l (lex c f e k ∷ ts); spells = NoBinaries tt; shorter = le_refl _; goes_on = q }

  -- a keyword message or none, which the grammar spells where the machine reads it
  gets_Keywords : (n : ℕ) (f0 : ℕ) (r : Chain) (h : Notes) (l : ℕ) (ts : List Lexeme) (ss : Stack) → NoBinary (first_kind ts) → 16 * length ts + 1 ≤ n → run (binary_part r ∷ ss) ts ≡ None → GotChain (λ u j. Keywords Longest f0 r (place h l ts) u j) cascade_part ts ss
  gets_Keywords zero f0 r h l ts ss none le q = absurd (omega arith)
  gets_Keywords (suc n) f0 r h l (lex c f e (Keyword k m) ∷ ts) ss none le q =
      let g = gets_Parts n (is_told r) h l c f e k m ts ss (omega arith) (sym (reads (binary_part r ∷ ss) _ (lex c f e (Keyword k m) ∷ ts) (Keyword k m) refl tt (step-keyword r k m ss)) ∙ q) in
      record { what = sent f0 g.stop.last r g.what.0 g.what.1; stop = g.stop; spells = OneKeywords g.spells; shorter = omega (arith, g.shorter); goes_on = subst (λ x. run (x ∷ ss) g.stop.rest ≡ None) (sym (cascade_part-sent f0 g.stop.last r g.what.0 g.what.1)) g.goes_on }
  gets_Keywords (suc n) f0 r h l (lex c f e (MessageMeta m) ∷ ts) ss none le q =
      let g = gets_AnyMessage (is_told r) h l c f e m ts ss (sym (reads (binary_part r ∷ ss) _ (lex c f e (MessageMeta m) ∷ ts) (MessageMeta m) refl tt (step-any_message r m ss)) ∙ q) in
      record { what = sent f0 g.stop.last r g.what.0 g.what.1; stop = g.stop; spells = AnyKeywords g.spells; shorter = omega (arith, g.shorter); goes_on = subst (λ x. run (x ∷ ss) g.stop.rest ≡ None) (sym (cascade_part-sent f0 g.stop.last r g.what.0 g.what.1)) g.goes_on }
  gets_Keywords (suc n) f0 r h l ts ss none le q = record { what = r; stop = place h l ts; spells = NoKeywords tt; shorter = le_refl _; goes_on = sym (binary_end ts r ss none tt) ∙ q }

  -- keywords and arguments, the first keyword of which was read
  gets_Parts : (n : ℕ) (told : Bool) (h : Notes) (l : ℕ) (c : Notes) (f e : ℕ) (k : KeywordKind) (m : Text) (ts : List Lexeme) (ss : Stack) → 16 * length ts + 10 ≤ n → run (TheKeywordArgument ∷ KeywordMessages told ∷ ss) ts ≡ None →
      Got {A = Text × SpannedTrees} (λ v j. Parts Longest (place h l (lex c f e (Keyword k m) ∷ ts)) v.0 v.1 j) ts (KeywordMessages told ∷ ss)
  gets_Parts zero told h l c f e k m ts ss le r = absurd (omega arith)
  gets_Parts (suc n) told h l c f e k m ts ss le r =
      let a = gets_KeywordArgument n (h ++ c) e ts (KeywordMessages told ∷ ss) (omega arith) r in
      let g = gets_FurtherParts n told (place h l (lex c f e (Keyword k m) ∷ ts)) k m refl a.what a.stop.held a.stop.last a.stop.rest ss a.spells (omega (arith, a.shorter)) a.goes_on in
      record { what = g.what; stop = g.stop; spells = g.spells; shorter = omega (arith, a.shorter, g.shorter); goes_on = g.goes_on }

  -- behind a keyword and its argument
  gets_FurtherParts : (n : ℕ) (told : Bool) (i : Input) (k : KeywordKind) (m : Text) → kind_of i ≡ Keyword k m → (x : SpannedTree) (h : Notes) (l : ℕ) (ts : List Lexeme) (ss : Stack) → KeywordArgument Longest (next i) x (place h l ts) → 16 * length ts + 1 ≤ n → run (KeywordMessages told ∷ ss) ts ≡ None →
      Got {A = Text × SpannedTrees} (λ v j. Parts Longest i v.0 v.1 j) ts (KeywordMessages told ∷ ss)
  gets_FurtherParts zero told i k m is x h l ts ss d le r = absurd (omega arith)
  gets_FurtherParts (suc n) told i k m is x h l (lex c f e (Keyword k' m') ∷ ts) ss d le r =
      let g = gets_Parts n told h l c f e k' m' ts ss (omega arith) r in
      record { what = (m ++ g.what.0, MoreTrees x g.what.1); stop = g.stop; spells = FurtherPart is d g.spells; shorter = omega (arith, g.shorter); goes_on = g.goes_on }
  gets_FurtherParts (suc n) told i k m is x h l (lex c f e (MessageMeta m') ∷ ts) ss d le r = cc
  gets_FurtherParts (suc n) told i k m is x h l ts ss d le r = record { what = (m, one_tree x); stop = place h l ts; spells = LastPart is d tt; shorter = le_refl _; goes_on = r }

  -- the argument of a binary message, which the grammar spells where the machine reads it
  gets_Argument : (n : ℕ) (h : Notes) (l : ℕ) (ts : List Lexeme) (ss : Stack) → 16 * length ts + 4 ≤ n → run (TheArgument ∷ ss) ts ≡ None → Got (λ t j. Argument Longest (place h l ts) t j) ts ss
  gets_Argument zero h l ts ss le r = absurd (omega arith)
  gets_Argument (suc n) h l ts ss le r =
      let f = from_of (place h l ts) in
      let o = gets_Operand n InBinary h l ts ss tt (omega arith) r in
      let u = gets_Unaries InBinary f o.what o.stop.held o.stop.last o.stop.rest ss o.goes_on in
      let w = whole_binary u.what u.stop.rest ss (ends_Unaries u.spells) u.goes_on in
      record { what = whole u.what; stop = u.stop; spells = BinaryArgument o.spells.1 u.spells w; shorter = omega (arith, o.shorter, u.shorter); goes_on = sym (unary_end-binary u.stop.rest u.what ss w (ends_Unaries u.spells)) ∙ u.goes_on }

  -- the argument of a keyword, which the grammar spells where the machine reads it
  gets_KeywordArgument : (n : ℕ) (h : Notes) (l : ℕ) (ts : List Lexeme) (ss : Stack) → 16 * length ts + 4 ≤ n → run (TheKeywordArgument ∷ ss) ts ≡ None → Got (λ t j. KeywordArgument Longest (place h l ts) t j) ts ss
  gets_KeywordArgument zero h l ts ss le r = absurd (omega arith)
  gets_KeywordArgument (suc n) h l ts ss le r =
      let o = gets_Operand n InKeyword h l ts ss tt (omega arith) r in
      let g = gets_ArgumentTail n (from_of (place h l ts)) o.what o.stop.held o.stop.last o.stop.rest ss (omega (arith, o.spells.0)) o.goes_on in
      record { what = whole g.what; stop = g.stop; spells = ArgumentOfKeyword o.spells.1 g.spells.unaries g.spells.binaries g.spells.is_whole; shorter = omega (arith, o.shorter, g.shorter); goes_on = g.goes_on }

  -- what stands behind the operand of a keyword's argument, which the grammar spells where the machine reads it
  gets_ArgumentTail : (n : ℕ) (f : ℕ) (r : Chain) (h : Notes) (l : ℕ) (ts : List Lexeme) (ss : Stack) → 16 * length ts + 6 ≤ n → run (unary_part InKeyword r ∷ ss) ts ≡ None → Got (λ b j. ArgumentTail f r (place h l ts) b j) ts ss
  gets_ArgumentTail zero f r h l ts ss le q = absurd (omega arith)
  gets_ArgumentTail (suc n) f r h l ts ss le q =
      let u = gets_Unaries InKeyword f r h l ts ss q in
      let b = gets_Binaries n of_keyword f u.what u.stop.held u.stop.last u.stop.rest ss (omega (arith, u.shorter)) (sym (unary_end-argument u.stop.rest u.what ss (ends_Unaries u.spells)) ∙ u.goes_on) in
      let w = argument_whole b.spells (ends_Unaries u.spells) ss b.goes_on in
      record { what = b.what; stop = b.stop; spells = record { chain = u.what; middle = u.stop; unaries = u.spells; binaries = b.spells; is_whole = w }; shorter = omega (arith, u.shorter, b.shorter); goes_on = sym (argument_end b.stop.rest b.what ss w (ends_Binaries b.spells)) ∙ b.goes_on }

  -- a cascade or none, which the grammar spells where the machine reads it
  gets_Cascaded : (n : ℕ) (r : Chain) (h : Notes) (l : ℕ) (ts : List Lexeme) (ss : Stack) → IsWhole r → NoKey (first_kind ts) → 16 * length ts + 2 ≤ n → run (cascade_part r ∷ ss) ts ≡ None → Got (λ t j. Cascaded Longest r (place h l ts) t j) ts ss
  gets_Cascaded zero r h l ts ss w none le q = absurd (omega arith)
  gets_Cascaded (suc n) (Waiting a b m) h l (lex c f e Semicolon ∷ ts) ss w none le q = absurd w
  gets_Cascaded (suc n) (Alone t) h l (lex c f e Semicolon ∷ ts) ss w none le q = cc
  gets_Cascaded (suc n) (Told a b r s xs) h l (lex c f e Semicolon ∷ ts) ss w none le q =
      let g = gets_Messages n h l (lex c f e Semicolon ∷ ts) ss (omega arith) q in
      record { what = Cascade a g.stop.last r (MoreMessages s xs g.what); stop = g.stop; spells = OneCascade refl g.spells; shorter = g.shorter; goes_on = g.goes_on }
  gets_Cascaded (suc n) r h l ts ss w none le q = record { what = whole r; stop = place h l ts; spells = NoCascade w tt; shorter = le_refl _; goes_on = sym (cascade_end ts r ss w none tt) ∙ q }

  -- the messages of a cascade, which the grammar spells where the machine reads it
  gets_Messages : (n : ℕ) (h : Notes) (l : ℕ) (ts : List Lexeme) (ss : Stack) → 16 * length ts + 1 ≤ n → run (TheCascade ∷ ss) ts ≡ None → Got (λ ms j. Messages Longest (place h l ts) ms j) ts ss
  gets_Messages zero h l ts ss le r = absurd (omega arith)
  gets_Messages (suc n) h l [] ss le r = record { what = NoMessages; stop = place h l []; spells = LastMessage tt; shorter = le_refl _; goes_on = r }
  gets_Messages (suc n) h l (lex c f e Semicolon ∷ ts) ss le r =
      let m = gets_Message n (h ++ c) e ts ss (omega arith) r in
      let g = gets_Messages n m.stop.held m.stop.last m.stop.rest ss (omega (arith, m.shorter)) m.goes_on in
      record { what = MoreMessages m.what.0 m.what.1 g.what; stop = g.stop; spells = OneMessage refl m.spells g.spells; shorter = omega (arith, m.shorter, g.shorter); goes_on = g.goes_on }
  gets_Messages (suc n) h l (lex c f e k ∷ ts) ss le r = record { what = NoMessages; stop = place h l (lex c f e k ∷ ts); spells = LastMessage tt; shorter = le_refl _; goes_on = r }

  -- one message of a cascade, which the grammar spells where the machine reads it
  gets_Message : (n : ℕ) (h : Notes) (l : ℕ) (ts : List Lexeme) (ss : Stack) → 16 * length ts + 12 ≤ n → run (TheMessage ∷ ss) ts ≡ None → Got {A = Text × SpannedTrees} (λ v j. Message Longest (place h l ts) v.0 v.1 j) ts (TheCascade ∷ ss)
  gets_Message zero h l ts ss le r = absurd (omega arith)
  gets_Message (suc n) h l [] ss le r = cc
  gets_Message (suc n) h l (lex c f e (Name k m) ∷ ts) ss le r = record { what = (m, NoTrees); stop = place (h ++ c) e ts; spells = UnaryMessage refl; shorter = omega arith; goes_on = r }
  gets_Message (suc n) h l (lex c f e (OperandMeta AnyName m) ∷ ts) ss le r = record { what = (m, NoTrees); stop = place (h ++ c) e ts; spells = AnyUnaryMessage refl; shorter = omega arith; goes_on = r }
  gets_Message (suc n) h l (lex c f e (Binary k m) ∷ ts) ss le r =
      let a = gets_Argument n (h ++ c) e ts (TheCascade ∷ ss) (omega arith) r in
      record { what = (m, one_tree a.what); stop = a.stop; spells = BinaryMessage refl a.spells; shorter = omega (arith, a.shorter); goes_on = a.goes_on }
  gets_Message (suc n) h l (lex c f e (Keyword k m) ∷ ts) ss le r =
      let g = gets_Parts n true h l c f e k m ts ss (omega arith) r in
      record { what = g.what; stop = g.stop; spells = KeywordMessage g.spells; shorter = omega (arith, g.shorter); goes_on = sym (keywords_end g.stop.rest ss (ends_Parts g.spells)) ∙ g.goes_on }
  gets_Message (suc n) h l (lex c f e (MessageMeta m) ∷ ts) ss le r =
      let g = gets_AnyMessage true h l c f e m ts ss r in
      record { what = g.what; stop = g.stop; spells = AnyKeywordMessage g.spells; shorter = omega (arith, g.shorter); goes_on = sym (keywords_end g.stop.rest ss (ends_AnyMessage g.spells)) ∙ g.goes_on }
  gets_Message (suc n) h l (lex c f e k ∷ ts) ss le r = cc

  -- the items of a brace array, which the grammar spells where the machine reads it
  gets_Items : (n : ℕ) (h : Notes) (l : ℕ) (ts : List Lexeme) (ss : Stack) → 16 * length ts + 7 ≤ n → run (TheItems ∷ ss) ts ≡ None → Got (λ us j. Items Longest (place h l ts) us j) ts ss
  gets_Items zero h l ts ss le r = absurd (omega arith)
  gets_Items (suc n) h l [] ss le r = record { what = NoTrees; stop = place h l []; spells = NoItems tt; shorter = le_refl _; goes_on = r }
  gets_Items (suc n) h l (lex c f e (Name k m) ∷ ts) ss le r = gets_Item n h l (lex c f e (Name k m) ∷ ts) ss (omega arith) (sym (as_item (lex c f e (Name k m) ∷ ts) ss tt) ∙ r)
  gets_Items (suc n) h l (lex c f e (Binary Sign m) ∷ ts) ss le r = gets_Item n h l (lex c f e (Binary Sign m) ∷ ts) ss (omega arith) r
  gets_Items (suc n) h l (lex c f e (Numeral k m) ∷ ts) ss le r = gets_Item n h l (lex c f e (Numeral k m) ∷ ts) ss (omega arith) r
  gets_Items (suc n) h l (lex c f e (Constant m) ∷ ts) ss le r = gets_Item n h l (lex c f e (Constant m) ∷ ts) ss (omega arith) r
  gets_Items (suc n) h l (lex c f e (OperandMeta k m) ∷ ts) ss le r = gets_Item n h l (lex c f e (OperandMeta k m) ∷ ts) ss (omega arith) r
  gets_Items (suc n) h l (lex c f e (Opens o) ∷ ts) ss le r = gets_Item n h l (lex c f e (Opens o) ∷ ts) ss (omega arith) (sym (as_item (lex c f e (Opens o) ∷ ts) ss tt) ∙ r)
  gets_Items (suc n) h l (lex c f e k ∷ ts) ss le r =
      record { what = NoTrees; stop = place h l (lex c f e k ∷ ts); spells = NoItems tt; shorter = le_refl _; goes_on = other_default (λ s. run s ts) (step ss k) (At (lex c f e k ∷ ts) (wish (TheItems ∷ ss)) (may_start (TheItems ∷ ss))) (At (lex c f e k ∷ ts) (wish ss) (may_start ss)) r }

  -- an item of a brace array, which the grammar spells where the machine reads it
  gets_Item : (n : ℕ) (h : Notes) (l : ℕ) (ts : List Lexeme) (ss : Stack) → 16 * length ts + 6 ≤ n → run (TheExpression ∷ FurtherItem ∷ ss) ts ≡ None → Got (λ us j. Items Longest (place h l ts) us j) ts ss
  gets_Item zero h l ts ss le r = absurd (omega arith)
  gets_Item (suc n) h l ts ss le r =
      let d = gets_Expression n h l ts (FurtherItem ∷ ss) (omega arith) r in
      let g = gets_FurtherItems n d.stop.held d.stop.last d.stop.rest ss (omega (arith, d.shorter)) d.goes_on in
      record { what = MoreTrees d.what g.what; stop = g.stop; spells = OneItem d.spells g.spells; shorter = omega (arith, d.shorter, g.shorter); goes_on = g.goes_on }

  -- what stands behind an item, which the grammar spells where the machine reads it
  gets_FurtherItems : (n : ℕ) (h : Notes) (l : ℕ) (ts : List Lexeme) (ss : Stack) → 16 * length ts + 1 ≤ n → run (FurtherItem ∷ ss) ts ≡ None → Got (λ us j. FurtherItems Longest (place h l ts) us j) ts ss
  gets_FurtherItems zero h l ts ss le r = absurd (omega arith)
  gets_FurtherItems (suc n) h l [] ss le r = record { what = NoTrees; stop = place h l []; spells = LastItem tt; shorter = le_refl _; goes_on = r }
  gets_FurtherItems (suc n) h l (lex c f e Period ∷ ts) ss le r =
      let g = gets_Items n (h ++ c) e ts ss (omega arith) r in
      record { what = g.what; stop = g.stop; spells = NextItem refl g.spells; shorter = omega (arith, g.shorter); goes_on = g.goes_on }
  gets_FurtherItems (suc n) h l (lex c f e k ∷ ts) ss le r = record { what = NoTrees; stop = place h l (lex c f e k ∷ ts); spells = LastItem tt; shorter = le_refl _; goes_on = r }

  -- what stands between the brackets of a block, which the grammar spells where the machine reads it
  gets_BlockBody : (n : ℕ) (h : Notes) (l : ℕ) (ts : List Lexeme) (ss : Stack) → 16 * length ts + 9 ≤ n → run (TheBlock ∷ Awaits BlockEnd ∷ ss) ts ≡ None → Got {A = List Declared × List Declared × SpannedStatements} (λ p j. BlockBody Longest (place h l ts) p.0 p.1 p.2 j) ts (Awaits BlockEnd ∷ ss)
  gets_BlockBody zero h l ts ss le r = absurd (omega arith)
  gets_BlockBody (suc n) h l (lex c f e Colon ∷ ts) ss le r =
      let p = gets_Parameters h l (lex c f e Colon ∷ ts) (Awaits BlockEnd ∷ ss) r in
      elim (behind_parameters p.stop.rest ss p.goes_on (ends_Parameters p.spells)) [
        | inl b ↦ record { what = (p.what, [], NoStatements); stop = p.stop; spells = ParametersAlone refl p.spells b.0.is; shorter = p.shorter; goes_on = b.1 }
        | inr b ↦
            let m = next p.stop in
            let s = gets_Sequence n m.held m.last m.rest (Awaits BlockEnd ∷ ss) (omega (arith, p.shorter, b.1.shorter)) b.1.goes_on in
            record { what = (p.what, s.what.0, s.what.1); stop = s.stop; spells = WithParameters refl p.spells b.1.is s.spells; shorter = omega (arith, p.shorter, b.1.shorter, s.shorter); goes_on = s.goes_on }
      ]
  gets_BlockBody (suc n) h l ts ss le r =
      let s = gets_Sequence n h l ts (Awaits BlockEnd ∷ ss) (omega arith) (sym (as_sequence ts (Awaits BlockEnd ∷ ss) tt) ∙ r) in
      record { what = ([], s.what.0, s.what.1); stop = s.stop; spells = WithoutParameters tt s.spells; shorter = s.shorter; goes_on = s.goes_on }

  -- a sequence, which the grammar spells where the machine reads it
  pub gets_Sequence : (n : ℕ) (h : Notes) (l : ℕ) (ts : List Lexeme) (ss : Stack) → 16 * length ts + 8 ≤ n → run (TheSequence ∷ ss) ts ≡ None → Got {A = List Declared × SpannedStatements} (λ p j. Sequence Longest (place h l ts) p.0 p.1 j) ts ss
  gets_Sequence zero h l ts ss le r = absurd (omega arith)
  gets_Sequence (suc n) h l ts ss le r =
      let d = gets_Temporaries h l ts ss r in
      let b = gets_Statements n d.stop.held d.stop.last d.stop.rest ss (omega (arith, d.shorter)) d.goes_on in
      record { what = (d.what, b.what); stop = b.stop; spells = Sequenced d.spells b.spells; shorter = omega (arith, d.shorter, b.shorter); goes_on = b.goes_on }

  -- statements, which the grammar spells where the machine reads it
  pub gets_Statements : (n : ℕ) (h : Notes) (l : ℕ) (ts : List Lexeme) (ss : Stack) → 16 * length ts + 7 ≤ n → run (TheStatements ∷ ss) ts ≡ None → Got (λ s j. Statements Longest (place h l ts) s j) ts ss
  gets_Statements zero h l ts ss le r = absurd (omega arith)
  gets_Statements (suc n) h l [] ss le r = record { what = NoStatements; stop = place h l []; spells = NoMore tt; shorter = le_refl _; goes_on = r }
  gets_Statements (suc n) h l (lex c f e Period ∷ ts) ss le r =
      let b = gets_Statements n (h ++ c) e ts ss (omega arith) r in
      record { what = b.what; stop = b.stop; spells = BlankPeriod refl b.spells; shorter = omega (arith, b.shorter); goes_on = b.goes_on }
  gets_Statements (suc n) h l (lex c f e Caret ∷ ts) ss le r =
      let d = gets_Expression n (h ++ c) e ts (BehindReturn ∷ ss) (omega arith) r in
      let p = gets_Finish d.stop.held d.stop.last d.stop.rest ss d.goes_on in
      record { what = MoreStatements p.what f (Return f d.stop.last d.what) NoStatements; stop = p.stop; spells = Returned refl d.spells p.spells; shorter = omega (arith, d.shorter, p.shorter); goes_on = p.goes_on }
  gets_Statements (suc n) h l (lex c f e (StatementMeta m) ∷ ts) ss le r =
      let a = gets_After n (h ++ c) e ts ss (omega arith) r in
      record { what = MoreStatements a.what.0 f (Var f e m) a.what.1; stop = a.stop; spells = AnyStatement refl a.spells; shorter = omega (arith, a.shorter); goes_on = a.goes_on }
  gets_Statements (suc n) h l (lex c f e (Name k m) ∷ ts) ss le r = gets_Statement n h l (lex c f e (Name k m) ∷ ts) ss (omega arith) (sym (as_statement (lex c f e (Name k m) ∷ ts) ss tt) ∙ r)
  gets_Statements (suc n) h l (lex c f e (Binary Sign m) ∷ ts) ss le r = gets_Statement n h l (lex c f e (Binary Sign m) ∷ ts) ss (omega arith) r
  gets_Statements (suc n) h l (lex c f e (Numeral k m) ∷ ts) ss le r = gets_Statement n h l (lex c f e (Numeral k m) ∷ ts) ss (omega arith) r
  gets_Statements (suc n) h l (lex c f e (Constant m) ∷ ts) ss le r = gets_Statement n h l (lex c f e (Constant m) ∷ ts) ss (omega arith) r
  gets_Statements (suc n) h l (lex c f e (OperandMeta k m) ∷ ts) ss le r = gets_Statement n h l (lex c f e (OperandMeta k m) ∷ ts) ss (omega arith) r
  gets_Statements (suc n) h l (lex c f e (Opens o) ∷ ts) ss le r = gets_Statement n h l (lex c f e (Opens o) ∷ ts) ss (omega arith) (sym (as_statement (lex c f e (Opens o) ∷ ts) ss tt) ∙ r)
  gets_Statements (suc n) h l (lex c f e k ∷ ts) ss le r =
      record { what = NoStatements; stop = place h l (lex c f e k ∷ ts); spells = NoMore tt; shorter = le_refl _; goes_on = other_default (λ s. run s ts) (step ss k) (At (lex c f e k ∷ ts) (wish (TheStatements ∷ ss)) (may_start (TheStatements ∷ ss))) (At (lex c f e k ∷ ts) (wish ss) (may_start ss)) r }

  -- a statement, which the grammar spells where the machine reads it
  gets_Statement : (n : ℕ) (h : Notes) (l : ℕ) (ts : List Lexeme) (ss : Stack) → 16 * length ts + 6 ≤ n → run (TheExpression ∷ BehindStatement ∷ ss) ts ≡ None → Got (λ s j. Statements Longest (place h l ts) s j) ts ss
  gets_Statement zero h l ts ss le r = absurd (omega arith)
  gets_Statement (suc n) h l ts ss le r =
      let d = gets_Expression n h l ts (BehindStatement ∷ ss) (omega arith) r in
      let a = gets_After n d.stop.held d.stop.last d.stop.rest ss (omega (arith, d.shorter)) d.goes_on in
      record { what = MoreStatements a.what.0 (from_of (place h l ts)) d.what a.what.1; stop = a.stop; spells = OneStatement d.spells a.spells; shorter = omega (arith, d.shorter, a.shorter); goes_on = a.goes_on }

  -- what stands behind a statement, which the grammar spells where the machine reads it
  gets_After : (n : ℕ) (h : Notes) (l : ℕ) (ts : List Lexeme) (ss : Stack) → 16 * length ts + 1 ≤ n → run (BehindStatement ∷ ss) ts ≡ None → Got {A = Notes × SpannedStatements} (λ p j. After Longest (place h l ts) p.0 p.1 j) ts ss
  gets_After zero h l ts ss le r = absurd (omega arith)
  gets_After (suc n) h l [] ss le r = record { what = (h, NoStatements); stop = place [] l []; spells = Unended tt; shorter = le_refl _; goes_on = r }
  gets_After (suc n) h l (lex c f e Period ∷ ts) ss le r =
      let b = gets_Statements n [] e ts ss (omega arith) r in
      record { what = (h ++ c, b.what); stop = b.stop; spells = Ended refl b.spells; shorter = omega (arith, b.shorter); goes_on = b.goes_on }
  gets_After (suc n) h l (lex c f e k ∷ ts) ss le r = record { what = (h, NoStatements); stop = place [] l (lex c f e k ∷ ts); spells = Unended tt; shorter = le_refl _; goes_on = r }
