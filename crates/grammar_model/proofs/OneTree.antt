-- The tokens determine a tree, and the place behind it, with the comments that are held there.
use Rattle.std.proofs.Common.{◌≡◌, ℕ, List, ◌∷◌, ◌++◌, refl, ap, sym, subst, arith}
use Rattle.tree_model.specs.Tree.{Notes}
use Rattle.grammar_model.specs.Terminal.{Text, NameKind, Ordinary, Super, Bar, Sign, Common, Less, Greater, Group, BlockStart, BraceStart, Terminal, Name, Keyword, Binary, Numeral, Constant, Opens, Closes, Assignment, Colon, Semicolon, Period, Caret, OperandMeta, AnyName, StatementMeta, MessageMeta, AnyExpression}
use Rattle.grammar_model.specs.Input.{Input, kind_of, from_of, next, clear, back}
use Rattle.grammar_model.specs.Spanned.{Declared, SpannedTree, Var, Literal, Cascade, Assign, Block, Brace, Return, SpannedTrees, NoTrees, MoreTrees, one_tree, SpannedMessages, MoreMessages, SpannedStatements, NoStatements, MoreStatements}
use Rattle.grammar_model.specs.Chain.{Chain, Waiting, Alone, whole, sent}
use Rattle.grammar_model.specs.Ahead.{Longest, NoName, NoKeyword, NoBinary, NoBar, NoSemicolon, NoColon, NoPeriod, NoOperand, NoStatement, NoAssignment, IsOperandStart, NoUnary, NoKey}
use Rattle.grammar_model.specs.Literals.{Unsigned, Negative, Fixed, Array, ByteArray}
use Rattle.grammar_model.specs.Grammar.{Periods, OnePeriod, NoPeriods, Names, OneName, NoNames, Parameters, OneParameter, NoParameters, Temporaries, Declares, DeclaresNone, Expression, Assigned, Simple, Operand, Variable, SuperName, LiteralOperand, Grouped, BlockOperand, BraceOperand, Unaries, OneUnary, NoUnaries, Binaries, OneBinary, NoBinaries, Keywords, OneKeywords, NoKeywords, Parts, LastPart, FurtherPart, Argument, BinaryArgument, KeywordArgument, ArgumentOfKeyword, Cascaded, NoCascade, OneCascade, Messages, OneMessage, LastMessage, Message, UnaryMessage, BinaryMessage, KeywordMessage, Items, NoItems, OneItem, FurtherItems, NextItem, LastItem, BlockBody, WithoutParameters, ParametersAlone, WithParameters, Sequence, Sequenced, Statements, BlankPeriod, NoMore, Returned, OneStatement, After, Ended, Unended, Finish, EndedReturn, UnendedReturn, MetaOperand, AnyUnary, AnyUnaryMessage, AnyStatement, AnyMessage, WholeMessage, AnyKeywords, AnyKeywordMessage}
use Rattle.grammar_model.proofs.OneLiteral.{kind_at, same_kind, same_rule, one_LiteralAt}

-- the rule of operands that fits a token
abbrev operand_rule : Terminal → ℕ
operand_rule (Name Ordinary n) = 0
operand_rule (Name Super n) = 1
operand_rule (Opens Group) = 3
operand_rule (Opens BlockStart) = 4
operand_rule (Opens BraceStart) = 5
operand_rule (OperandMeta m n) = 6
operand_rule k = 2

-- the rule that spells an operand
abbrev rule_of_Operand : {i j : Input} {r : Chain} → Operand Longest i r j → ℕ
rule_of_Operand (Variable e) = 0
rule_of_Operand (SuperName e) = 1
rule_of_Operand (LiteralOperand d) = 2
rule_of_Operand (Grouped e d c) = 3
rule_of_Operand (BlockOperand e d c) = 4
rule_of_Operand (BraceOperand e d c) = 5
rule_of_Operand (MetaOperand e) = 6

-- it is the rule of the first token
operand_rule-Operand : {i j : Input} {r : Chain} (d : Operand Longest i r j) → operand_rule (kind_of i) ≡ rule_of_Operand d
operand_rule-Operand (Variable e) = ap operand_rule e
operand_rule-Operand (SuperName e) = ap operand_rule e
operand_rule-Operand (LiteralOperand (Unsigned e)) = ap operand_rule e
operand_rule-Operand (LiteralOperand (Negative e f)) = ap operand_rule e
operand_rule-Operand (LiteralOperand (Fixed e)) = ap operand_rule e
operand_rule-Operand (LiteralOperand (Array e a c)) = ap operand_rule e
operand_rule-Operand (LiteralOperand (ByteArray e a c)) = ap operand_rule e
operand_rule-Operand (Grouped e d c) = ap operand_rule e
operand_rule-Operand (BlockOperand e d c) = ap operand_rule e
operand_rule-Operand (BraceOperand e d c) = ap operand_rule e
operand_rule-Operand (MetaOperand e) = ap operand_rule e

-- an operand begins with a token that operands begin with
pub starts_Operand : {i j : Input} {r : Chain} → Operand Longest i r j → IsOperandStart (kind_of i)
starts_Operand (Variable e) = subst IsOperandStart (sym e) tt
starts_Operand (SuperName e) = subst IsOperandStart (sym e) tt
starts_Operand (LiteralOperand (Unsigned e)) = subst IsOperandStart (sym e) tt
starts_Operand (LiteralOperand (Negative e f)) = subst IsOperandStart (sym e) tt
starts_Operand (LiteralOperand (Fixed e)) = subst IsOperandStart (sym e) tt
starts_Operand (LiteralOperand (Array e a c)) = subst IsOperandStart (sym e) tt
starts_Operand (LiteralOperand (ByteArray e a c)) = subst IsOperandStart (sym e) tt
starts_Operand (Grouped e d c) = subst IsOperandStart (sym e) tt
starts_Operand (BlockOperand e d c) = subst IsOperandStart (sym e) tt
starts_Operand (BraceOperand e d c) = subst IsOperandStart (sym e) tt
starts_Operand (MetaOperand e) = subst IsOperandStart (sym e) tt

-- an expression begins with such a token too
pub starts_Expression : {i j : Input} {t : SpannedTree} → Expression Longest i t j → IsOperandStart (kind_of i)
starts_Expression (Assigned e f d) = subst IsOperandStart (sym e) tt
starts_Expression (Simple n o u b k c) = starts_Operand o

-- no token begins an operand and none
pub start_clash : (k : Terminal) → IsOperandStart k → NoOperand k → ⊥
start_clash (Name c n) s h = h
start_clash (Binary Sign b) s h = h
start_clash (Numeral c t) s h = h
start_clash (Constant l) s h = h
start_clash (Opens o) s h = h
start_clash (OperandMeta m n) s h = h
start_clash k s h = s

-- what ends statements begins no operand
pub NoStatement-NoOperand : (k : Terminal) → NoStatement k → NoOperand k
NoStatement-NoOperand (Name c n) h = h
NoStatement-NoOperand (Binary Sign s) h = h
NoStatement-NoOperand (Binary Common s) h = tt
NoStatement-NoOperand (Binary Less s) h = tt
NoStatement-NoOperand (Binary Greater s) h = tt
NoStatement-NoOperand (Binary Bar s) h = tt
NoStatement-NoOperand (Numeral c t) h = h
NoStatement-NoOperand (Constant l) h = h
NoStatement-NoOperand (Opens o) h = h
NoStatement-NoOperand (OperandMeta m n) h = h
NoStatement-NoOperand (Keyword c k) h = tt
NoStatement-NoOperand (StatementMeta n) h = tt
NoStatement-NoOperand (MessageMeta n) h = tt
NoStatement-NoOperand (Closes c) h = tt
NoStatement-NoOperand Assignment h = tt
NoStatement-NoOperand Colon h = tt
NoStatement-NoOperand Semicolon h = tt
NoStatement-NoOperand Period h = tt
NoStatement-NoOperand Caret h = tt

-- no expression begins where no operand can
starts_here : {i i' j : Input} {t : SpannedTree} → i ≡ i' → Expression Longest i' t j → NoOperand (kind_of i) → ⊥
starts_here s d n = start_clash _ (starts_Expression d) (subst (λ i. NoOperand (kind_of i)) s n)

-- no assignment begins where none can
assignment_clash : (i : Input) (c : NameKind) (n : Text) → kind_of i ≡ Name c n → kind_of (next i) ≡ Assignment → NoAssignment (kind_of i) (kind_of (next i)) → ⊥
assignment_clash i c n e f h = subst (NoAssignment (Name c n)) f (subst (λ k. NoAssignment k (kind_of (next i))) e h)

-- periods: the tokens determine it
one_Periods : {i j : Input} → Periods Longest i j → {i' j' : Input} → Periods Longest i' j' → i ≡ i' → j ≡ j'
one_Periods (OnePeriod e d) (OnePeriod e' d') s = one_Periods d d' (ap next s)
one_Periods (OnePeriod e d) (NoPeriods h) s = absurd (kind_at NoPeriod s e h)
one_Periods (NoPeriods h) (OnePeriod e' d') s = absurd (kind_at NoPeriod (sym s) e' h)
one_Periods (NoPeriods h) (NoPeriods h') s = s

-- declared names: the tokens determine it
pub one_Names : {i j : Input} {ds : List Declared} → Names Longest i ds j → {i' j' : Input} {ds' : List Declared} → Names Longest i' ds' j' → i ≡ i' → (ds ≡ ds') × (j ≡ j')
one_Names (OneName {c} {n} e d) (OneName {c = c'} {n = n'} e' d') s =
    let p = one_Names d d' (ap next s) in
    let k : Name c n ≡ Name c' n' = same_kind s e e' in
    let same : n ≡ n' = cc in
    ((λ v. record { name = same v; from = from_of (s v) } ∷ p.0 v), p.1)
one_Names (OneName e d) (NoNames h) s = absurd (kind_at NoName s e h)
one_Names (NoNames h) (OneName e' d') s = absurd (kind_at NoName (sym s) e' h)
one_Names (NoNames h) (NoNames h') s = (refl, s)

-- the parameters of a block: the tokens determine it
one_Parameters : {i j : Input} {ds : List Declared} → Parameters Longest i ds j → {i' j' : Input} {ds' : List Declared} → Parameters Longest i' ds' j' → i ≡ i' → (ds ≡ ds') × (j ≡ j')
one_Parameters (OneParameter {c} {n} e f d) (OneParameter {c = c'} {n = n'} e' f' d') s =
    let p = one_Parameters d d' (ap (λ i. next (next i)) s) in
    let k : Name c n ≡ Name c' n' = same_kind (ap next s) f f' in
    let same : n ≡ n' = cc in
    ((λ v. record { name = same v; from = from_of (next (s v)) } ∷ p.0 v), p.1)
one_Parameters (OneParameter e f d) (NoParameters h) s = absurd (kind_at NoColon s e h)
one_Parameters (NoParameters h) (OneParameter e' f' d') s = absurd (kind_at NoColon (sym s) e' h)
one_Parameters (NoParameters h) (NoParameters h') s = (refl, s)

-- temporaries or none: the tokens determine it
one_Temporaries : {i j : Input} {ds : List Declared} → Temporaries Longest i ds j → {i' j' : Input} {ds' : List Declared} → Temporaries Longest i' ds' j' → i ≡ i' → (ds ≡ ds') × (j ≡ j')
one_Temporaries (Declares e d f) (Declares e' d' f') s = let p = one_Names d d' (ap next s) in (p.0, ap next p.1)
one_Temporaries (Declares e d f) (DeclaresNone h) s = absurd (kind_at NoBar s e h)
one_Temporaries (DeclaresNone h) (Declares e' d' f') s = absurd (kind_at NoBar (sym s) e' h)
one_Temporaries (DeclaresNone h) (DeclaresNone h') s = (refl, s)

-- keyword messages begin with a keyword
starts_Parts : {i j : Input} {s : Text} {xs : SpannedTrees} → Parts Longest i s xs j → NoKeyword (kind_of i) → ⊥
starts_Parts (LastPart e x n) h = subst NoKeyword e h
starts_Parts (FurtherPart e x d) h = subst NoKeyword e h

-- what begins no keyword message is no keyword
no_keyword : (k : Terminal) → NoKey k → NoKeyword k
no_keyword (Keyword c n) h = h
no_keyword k h = tt

-- any message begins with its own token
starts_AnyMessage : {i j : Input} {s : Text} {xs : SpannedTrees} → AnyMessage Longest i s xs j → NoKey (kind_of i) → ⊥
starts_AnyMessage (WholeMessage e f n) h = subst NoKey e h

-- which is no keyword
other_AnyMessage : {i j : Input} {s : Text} {xs : SpannedTrees} → AnyMessage Longest i s xs j → NoKeyword (kind_of i)
other_AnyMessage (WholeMessage e f n) = subst NoKeyword (sym e) tt

-- any message: the tokens determine it
one_AnyMessage : {i j : Input} {k : Text} {xs : SpannedTrees} → AnyMessage Longest i k xs j → {i' j' : Input} {k' : Text} {xs' : SpannedTrees} → AnyMessage Longest i' k' xs' j' → i ≡ i' → (k ≡ k') × (xs ≡ xs') × (j ≡ j')
one_AnyMessage (WholeMessage {k} {n} e f h) (WholeMessage {k = k'} {n = n'} e' f' h') s =
    let a : MessageMeta k ≡ MessageMeta k' = same_kind s e e' in
    let b : OperandMeta AnyExpression n ≡ OperandMeta AnyExpression n' = same_kind (ap next s) f f' in
    let keys : k ≡ k' = cc in
    let names : n ≡ n' = cc in
    (keys, (λ v. one_tree (Var (from_of (next (s v))) (next (next (s v))).last (names v))), (λ v. next (next (s v))))

-- the rule of a cascade's messages that fits a token
abbrev message_rule : Terminal → ℕ
message_rule (Name c n) = 0
message_rule (OperandMeta AnyName n) = 3
message_rule (Binary c s) = 1
message_rule (MessageMeta s) = 4
message_rule k = 2

-- the rule that spells a message
abbrev rule_of_Message : {i j : Input} {s : Text} {xs : SpannedTrees} → Message Longest i s xs j → ℕ
rule_of_Message (UnaryMessage e) = 0
rule_of_Message (AnyUnaryMessage e) = 3
rule_of_Message (BinaryMessage e x) = 1
rule_of_Message (KeywordMessage d) = 2
rule_of_Message (AnyKeywordMessage d) = 4

-- it is the rule of the first token
message_rule-Message : {i j : Input} {s : Text} {xs : SpannedTrees} (d : Message Longest i s xs j) → message_rule (kind_of i) ≡ rule_of_Message d
message_rule-Message (UnaryMessage e) = ap message_rule e
message_rule-Message (AnyUnaryMessage e) = ap message_rule e
message_rule-Message (BinaryMessage e x) = ap message_rule e
message_rule-Message (KeywordMessage (LastPart e x n)) = ap message_rule e
message_rule-Message (KeywordMessage (FurtherPart e x d)) = ap message_rule e
message_rule-Message (AnyKeywordMessage (WholeMessage e f h)) = ap message_rule e

mutual
  -- the tokens determine an expression, and the place behind it
  pub one_Expression : {i j : Input} {t : SpannedTree} → Expression Longest i t j → {i' j' : Input} {t' : SpannedTree} → Expression Longest i' t' j' → i ≡ i' → (t ≡ t') × (j ≡ j')
  one_Expression (Assigned {c} {n} e f d) (Assigned {c = c'} {n = n'} e' f' d') s =
      let p = one_Expression d d' (ap (λ i. next (next i)) s) in
      let k : Name c n ≡ Name c' n' = same_kind s e e' in
      let same : n ≡ n' = cc in
      ((λ v. Assign (from_of (s v)) (p.1 v).last (same v) (p.0 v)), p.1)
  one_Expression {i} (Assigned {c} {n} e f d) (Simple plain o u b k w) s = absurd (assignment_clash i c n e f (subst (λ i. NoAssignment (kind_of i) (kind_of (next i))) (sym s) plain))
  one_Expression (Simple plain o u b k w) {i'} (Assigned {c} {n} e f d) s = absurd (assignment_clash i' c n e f (subst (λ i. NoAssignment (kind_of i) (kind_of (next i))) s plain))
  one_Expression (Simple plain o u b k w) (Simple plain' o' u' b' k' w') s =
      let p = one_Operand o o' s in
      let q = one_Unaries u u' (ap from_of s) p.0 p.1 in
      let r = one_Binaries b b' (ap from_of s) q.0 q.1 in
      let x = one_Keywords k k' (ap from_of s) r.0 r.1 in
      one_Cascaded w w' x.0 x.1

  -- an operand: the tokens determine it
  pub one_Operand : {i j : Input} {r : Chain} → Operand Longest i r j → {i' j' : Input} {r' : Chain} → Operand Longest i' r' j' → i ≡ i' → (r ≡ r') × (j ≡ j')
  one_Operand (Variable {n} e) (Variable {n = n'} e') s =
      let k : Name Ordinary n ≡ Name Ordinary n' = same_kind s e e' in
      let same : n ≡ n' = cc in
      ((λ v. Alone (Var (from_of (s v)) (next (s v)).last (same v))), ap next s)
  one_Operand (SuperName {n} e) (SuperName {n = n'} e') s =
      let k : Name Super n ≡ Name Super n' = same_kind s e e' in
      let same : n ≡ n' = cc in
      ((λ v. Waiting (from_of (s v)) (next (s v)).last (same v)), ap next s)
  one_Operand (MetaOperand {m} {n} e) (MetaOperand {m = m'} {n = n'} e') s =
      let k : OperandMeta m n ≡ OperandMeta m' n' = same_kind s e e' in
      let same : n ≡ n' = cc in
      ((λ v. Alone (Var (from_of (s v)) (next (s v)).last (same v))), ap next s)
  one_Operand (LiteralOperand d) (LiteralOperand d') s =
      let p = one_LiteralAt d d' s in
      ((λ v. Alone (Literal (from_of (s v)) (p.1 v).last (p.0 v))), p.1)
  one_Operand (Grouped e d c) (Grouped e' d' c') s = let p = one_Expression d d' (ap next s) in (ap Alone p.0, ap next p.1)
  one_Operand (BlockOperand e b c) (BlockOperand e' b' c') s =
      let p = one_BlockBody b b' (ap (λ i. clear (next i)) s) in
      ((λ v. Alone (Block (from_of (s v)) (next (p.3 v)).last (p.0 v) (p.1 v) (p.2 v) (next (p.3 v)).held)), (λ v. back (next (s v)) (next (p.3 v))))
  one_Operand (BraceOperand e d c) (BraceOperand e' d' c') s =
      let p = one_Items d d' (ap next s) in
      ((λ v. Alone (Brace (from_of (s v)) (next (p.1 v)).last (p.0 v))), ap next p.1)
  one_Operand d d' s = let e = same_rule operand_rule s (operand_rule-Operand d) (operand_rule-Operand d') in absurd (omega arith)

  -- unary messages: the tokens determine it
  pub one_Unaries : {f : ℕ} {i j : Input} {r u : Chain} → Unaries Longest f r i u j → {f' : ℕ} {i' j' : Input} {r' u' : Chain} → Unaries Longest f' r' i' u' j' → f ≡ f' → r ≡ r' → i ≡ i' → (u ≡ u') × (j ≡ j')
  one_Unaries (OneUnary {c} {n} e u) (OneUnary {c = c'} {n = n'} e' u') g q s =
      let k : Name c n ≡ Name c' n' = same_kind s e e' in
      let same : n ≡ n' = cc in
      one_Unaries u u' g (λ v. sent (g v) (next (s v)).last (q v) (same v) NoTrees) (ap next s)
  one_Unaries (AnyUnary {n} e u) (AnyUnary {n = n'} e' u') g q s =
      let k : OperandMeta AnyName n ≡ OperandMeta AnyName n' = same_kind s e e' in
      let same : n ≡ n' = cc in
      one_Unaries u u' g (λ v. sent (g v) (next (s v)).last (q v) (same v) NoTrees) (ap next s)
  one_Unaries (OneUnary {c} {n} e u) (AnyUnary {n = n'} e' u') g q s = let k : Name c n ≡ OperandMeta AnyName n' = same_kind s e e' in cc
  one_Unaries (AnyUnary {n} e u) (OneUnary {c = c'} {n = n'} e' u') g q s = let k : OperandMeta AnyName n ≡ Name c' n' = same_kind s e e' in cc
  one_Unaries (AnyUnary e u) (NoUnaries h) g q s = absurd (kind_at NoUnary s e h)
  one_Unaries (NoUnaries h) (AnyUnary e u) g q s = absurd (kind_at NoUnary (sym s) e h)
  one_Unaries (OneUnary e u) (NoUnaries h) g q s = absurd (kind_at NoUnary s e h)
  one_Unaries (NoUnaries h) (OneUnary e u) g q s = absurd (kind_at NoUnary (sym s) e h)
  one_Unaries (NoUnaries h) (NoUnaries h') g q s = (q, s)

  -- binary messages: the tokens determine it
  pub one_Binaries : {f : ℕ} {i j : Input} {r u : Chain} → Binaries Longest f r i u j → {f' : ℕ} {i' j' : Input} {r' u' : Chain} → Binaries Longest f' r' i' u' j' → f ≡ f' → r ≡ r' → i ≡ i' → (u ≡ u') × (j ≡ j')
  one_Binaries (OneBinary {c} {s = b} e x u) (OneBinary {c = c'} {s = b'} e' x' u') g q s =
      let k : Binary c b ≡ Binary c' b' = same_kind s e e' in
      let same : b ≡ b' = cc in
      let p = one_Argument x x' (ap next s) in
      one_Binaries u u' g (λ v. sent (g v) (p.1 v).last (q v) (same v) (one_tree (p.0 v))) p.1
  one_Binaries (OneBinary e x u) (NoBinaries h) g q s = absurd (kind_at NoBinary s e h)
  one_Binaries (NoBinaries h) (OneBinary e x u) g q s = absurd (kind_at NoBinary (sym s) e h)
  one_Binaries (NoBinaries h) (NoBinaries h') g q s = (q, s)

  -- a keyword message or none: the tokens determine it
  pub one_Keywords : {f : ℕ} {i j : Input} {r u : Chain} → Keywords Longest f r i u j → {f' : ℕ} {i' j' : Input} {r' u' : Chain} → Keywords Longest f' r' i' u' j' → f ≡ f' → r ≡ r' → i ≡ i' → (u ≡ u') × (j ≡ j')
  one_Keywords (OneKeywords d) (OneKeywords d') g q s =
      let p = one_Parts d d' s in
      ((λ v. sent (g v) (p.2 v).last (q v) (p.0 v) (p.1 v)), p.2)
  one_Keywords (AnyKeywords d) (AnyKeywords d') g q s =
      let p = one_AnyMessage d d' s in
      ((λ v. sent (g v) (p.2 v).last (q v) (p.0 v) (p.1 v)), p.2)
  one_Keywords (OneKeywords d) (AnyKeywords d') g q s = absurd (starts_Parts d (subst (λ i. NoKeyword (kind_of i)) (sym s) (other_AnyMessage d')))
  one_Keywords (AnyKeywords d) (OneKeywords d') g q s = absurd (starts_Parts d' (subst (λ i. NoKeyword (kind_of i)) s (other_AnyMessage d)))
  one_Keywords (OneKeywords d) (NoKeywords h) g q s = absurd (starts_Parts d (no_keyword _ (subst (λ i. NoKey (kind_of i)) (sym s) h)))
  one_Keywords (NoKeywords h) (OneKeywords d) g q s = absurd (starts_Parts d (no_keyword _ (subst (λ i. NoKey (kind_of i)) s h)))
  one_Keywords (AnyKeywords d) (NoKeywords h) g q s = absurd (starts_AnyMessage d (subst (λ i. NoKey (kind_of i)) (sym s) h))
  one_Keywords (NoKeywords h) (AnyKeywords d) g q s = absurd (starts_AnyMessage d (subst (λ i. NoKey (kind_of i)) s h))
  one_Keywords (NoKeywords h) (NoKeywords h') g q s = (q, s)

  -- keywords with their arguments: the tokens determine it
  pub one_Parts : {i j : Input} {k : Text} {xs : SpannedTrees} → Parts Longest i k xs j → {i' j' : Input} {k' : Text} {xs' : SpannedTrees} → Parts Longest i' k' xs' j' → i ≡ i' → (k ≡ k') × (xs ≡ xs') × (j ≡ j')
  one_Parts (LastPart {c} {k} e x h) (LastPart {c = c'} {k = k'} e' x' h') s =
      let names : Keyword c k ≡ Keyword c' k' = same_kind s e e' in
      let same : k ≡ k' = cc in
      let p = one_KeywordArgument x x' (ap next s) in
      (same, ap one_tree p.0, p.1)
  one_Parts (FurtherPart {c} {k} e x d) (FurtherPart {c = c'} {k = k'} e' x' d') s =
      let names : Keyword c k ≡ Keyword c' k' = same_kind s e e' in
      let same : k ≡ k' = cc in
      let p = one_KeywordArgument x x' (ap next s) in
      let q = one_Parts d d' p.1 in
      ((λ v. same v ++ q.0 v), (λ v. MoreTrees (p.0 v) (q.1 v)), q.2)
  one_Parts (LastPart e x h) (FurtherPart e' x' d) s = let p = one_KeywordArgument x x' (ap next s) in absurd (starts_Parts d (no_keyword _ (subst (λ i. NoKey (kind_of i)) p.1 h)))
  one_Parts (FurtherPart e x d) (LastPart e' x' h) s = let p = one_KeywordArgument x x' (ap next s) in absurd (starts_Parts d (no_keyword _ (subst (λ i. NoKey (kind_of i)) (sym p.1) h)))

  -- the argument of a binary message: the tokens determine it
  pub one_Argument : {i j : Input} {t : SpannedTree} → Argument Longest i t j → {i' j' : Input} {t' : SpannedTree} → Argument Longest i' t' j' → i ≡ i' → (t ≡ t') × (j ≡ j')
  one_Argument (BinaryArgument o u w) (BinaryArgument o' u' w') s =
      let p = one_Operand o o' s in
      let q = one_Unaries u u' (ap from_of s) p.0 p.1 in
      (ap whole q.0, q.1)

  -- the argument of a keyword: the tokens determine it
  pub one_KeywordArgument : {i j : Input} {t : SpannedTree} → KeywordArgument Longest i t j → {i' j' : Input} {t' : SpannedTree} → KeywordArgument Longest i' t' j' → i ≡ i' → (t ≡ t') × (j ≡ j')
  one_KeywordArgument (ArgumentOfKeyword o u b w) (ArgumentOfKeyword o' u' b' w') s =
      let p = one_Operand o o' s in
      let q = one_Unaries u u' (ap from_of s) p.0 p.1 in
      let r = one_Binaries b b' (ap from_of s) q.0 q.1 in
      (ap whole r.0, r.1)

  -- a cascade or none: the tokens determine it
  pub one_Cascaded : {r : Chain} {i j : Input} {t : SpannedTree} → Cascaded Longest r i t j → {r' : Chain} {i' j' : Input} {t' : SpannedTree} → Cascaded Longest r' i' t' j' → r ≡ r' → i ≡ i' → (t ≡ t') × (j ≡ j')
  one_Cascaded (NoCascade w h) (NoCascade w' h') q s = (ap whole q, s)
  one_Cascaded (NoCascade w h) (OneCascade e d) q s = absurd (kind_at NoSemicolon (sym s) e h)
  one_Cascaded (OneCascade e d) (NoCascade w h) q s = absurd (kind_at NoSemicolon s e h)
  one_Cascaded (OneCascade {f} {e = end} {r} {s = a} {xs} e d) (OneCascade {f = f'} {e = end'} {r = r'} {s = a'} {xs = xs'} e' d') q s =
      let p = one_Messages d d' s in
      let froms : f ≡ f' = cc in
      let receivers : r ≡ r' = cc in
      let selectors : a ≡ a' = cc in
      let arguments : xs ≡ xs' = cc in
      ((λ v. Cascade (froms v) (p.1 v).last (receivers v) (MoreMessages (selectors v) (arguments v) (p.0 v))), p.1)

  -- the messages of a cascade: the tokens determine it
  pub one_Messages : {i j : Input} {ms : SpannedMessages} → Messages Longest i ms j → {i' j' : Input} {ms' : SpannedMessages} → Messages Longest i' ms' j' → i ≡ i' → (ms ≡ ms') × (j ≡ j')
  one_Messages (OneMessage e m d) (OneMessage e' m' d') s =
      let p = one_Message m m' (ap next s) in
      let q = one_Messages d d' p.2 in
      ((λ v. MoreMessages (p.0 v) (p.1 v) (q.0 v)), q.1)
  one_Messages (OneMessage e m d) (LastMessage h) s = absurd (kind_at NoSemicolon s e h)
  one_Messages (LastMessage h) (OneMessage e m d) s = absurd (kind_at NoSemicolon (sym s) e h)
  one_Messages (LastMessage h) (LastMessage h') s = (refl, s)

  -- one message of a cascade: the tokens determine it
  pub one_Message : {i j : Input} {k : Text} {xs : SpannedTrees} → Message Longest i k xs j → {i' j' : Input} {k' : Text} {xs' : SpannedTrees} → Message Longest i' k' xs' j' → i ≡ i' → (k ≡ k') × (xs ≡ xs') × (j ≡ j')
  one_Message (UnaryMessage {c} {n} e) (UnaryMessage {c = c'} {n = n'} e') s =
      let k : Name c n ≡ Name c' n' = same_kind s e e' in
      (cc, refl, ap next s)
  one_Message (AnyUnaryMessage {n} e) (AnyUnaryMessage {n = n'} e') s =
      let k : OperandMeta AnyName n ≡ OperandMeta AnyName n' = same_kind s e e' in
      (cc, refl, ap next s)
  one_Message (BinaryMessage {c} {s = b} e x) (BinaryMessage {c = c'} {s = b'} e' x') s =
      let k : Binary c b ≡ Binary c' b' = same_kind s e e' in
      let same : b ≡ b' = cc in
      let p = one_Argument x x' (ap next s) in
      (same, ap one_tree p.0, p.1)
  one_Message (KeywordMessage d) (KeywordMessage d') s = one_Parts d d' s
  one_Message (AnyKeywordMessage d) (AnyKeywordMessage d') s = one_AnyMessage d d' s
  one_Message d d' s = let e = same_rule message_rule s (message_rule-Message d) (message_rule-Message d') in absurd (omega arith)

  -- the items of a brace array: the tokens determine it
  pub one_Items : {i j : Input} {ts : SpannedTrees} → Items Longest i ts j → {i' j' : Input} {ts' : SpannedTrees} → Items Longest i' ts' j' → i ≡ i' → (ts ≡ ts') × (j ≡ j')
  one_Items (NoItems h) (NoItems h') s = (refl, s)
  one_Items (NoItems h) (OneItem d r) s = absurd (starts_here s d h)
  one_Items (OneItem d r) (NoItems h) s = absurd (starts_here (sym s) d h)
  one_Items (OneItem d r) (OneItem d' r') s =
      let p = one_Expression d d' s in
      let q = one_FurtherItems r r' p.1 in
      ((λ v. MoreTrees (p.0 v) (q.0 v)), q.1)

  -- what stands behind an item: the tokens determine it
  pub one_FurtherItems : {i j : Input} {ts : SpannedTrees} → FurtherItems Longest i ts j → {i' j' : Input} {ts' : SpannedTrees} → FurtherItems Longest i' ts' j' → i ≡ i' → (ts ≡ ts') × (j ≡ j')
  one_FurtherItems (NextItem e d) (NextItem e' d') s = one_Items d d' (ap next s)
  one_FurtherItems (NextItem e d) (LastItem h) s = absurd (kind_at NoPeriod s e h)
  one_FurtherItems (LastItem h) (NextItem e d) s = absurd (kind_at NoPeriod (sym s) e h)
  one_FurtherItems (LastItem h) (LastItem h') s = (refl, s)

  -- what stands between the brackets of a block: the tokens determine it
  pub one_BlockBody : {i j : Input} {ps ds : List Declared} {ss : SpannedStatements} → BlockBody Longest i ps ds ss j → {i' j' : Input} {ps' ds' : List Declared} {ss' : SpannedStatements} → BlockBody Longest i' ps' ds' ss' j' → i ≡ i' → (ps ≡ ps') × (ds ≡ ds') × (ss ≡ ss') × (j ≡ j')
  one_BlockBody (WithoutParameters h b) (WithoutParameters h' b') s = let p = one_Sequence b b' s in (refl, p.0, p.1, p.2)
  one_BlockBody (ParametersAlone e p c) (ParametersAlone e' p' c') s = let q = one_Parameters p p' s in (q.0, refl, refl, q.1)
  one_BlockBody (WithParameters e p c b) (WithParameters e' p' c' b') s =
      let q = one_Parameters p p' s in
      let w = one_Sequence b b' (ap next q.1) in
      (q.0, w.0, w.1, w.2)
  one_BlockBody (ParametersAlone e p c) (WithParameters e' p' c' b') s = let q = one_Parameters p p' s in let k = same_kind q.1 c c' in cc
  one_BlockBody (WithParameters e p c b) (ParametersAlone e' p' c') s = let q = one_Parameters p p' s in let k = same_kind q.1 c c' in cc
  one_BlockBody (WithoutParameters h b) (ParametersAlone e p c) s = absurd (kind_at NoColon (sym s) e h)
  one_BlockBody (WithoutParameters h b) (WithParameters e p c b') s = absurd (kind_at NoColon (sym s) e h)
  one_BlockBody (ParametersAlone e p c) (WithoutParameters h b) s = absurd (kind_at NoColon s e h)
  one_BlockBody (WithParameters e p c b') (WithoutParameters h b) s = absurd (kind_at NoColon s e h)

  -- the tokens determine a sequence, and the place behind it
  pub one_Sequence : {i j : Input} {ds : List Declared} {ss : SpannedStatements} → Sequence Longest i ds ss j → {i' j' : Input} {ds' : List Declared} {ss' : SpannedStatements} → Sequence Longest i' ds' ss' j' → i ≡ i' → (ds ≡ ds') × (ss ≡ ss') × (j ≡ j')
  one_Sequence (Sequenced d b) (Sequenced d' b') s =
      let p = one_Temporaries d d' s in
      let q = one_Statements b b' p.1 in
      (p.0, q.0, q.1)

  -- the tokens determine statements, and the place behind them
  pub one_Statements : {i j : Input} {ss : SpannedStatements} → Statements Longest i ss j → {i' j' : Input} {ss' : SpannedStatements} → Statements Longest i' ss' j' → i ≡ i' → (ss ≡ ss') × (j ≡ j')
  one_Statements (BlankPeriod e b) (BlankPeriod e' b') s = one_Statements b b' (ap next s)
  one_Statements (NoMore h) (NoMore h') s = (refl, s)
  one_Statements (Returned e d f) (Returned e' d' f') s =
      let p = one_Expression d d' (ap next s) in
      let q = one_Finish f f' p.1 in
      ((λ v. MoreStatements (q.0 v) (from_of (s v)) (Return (from_of (s v)) (p.1 v).last (p.0 v)) NoStatements), q.1)
  one_Statements (OneStatement d a) (OneStatement d' a') s =
      let p = one_Expression d d' s in
      let q = one_After a a' p.1 in
      ((λ v. MoreStatements (q.0 v) (from_of (s v)) (p.0 v) (q.1 v)), q.2)
  one_Statements (AnyStatement {n} e a) (AnyStatement {n = n'} e' a') s =
      let k : StatementMeta n ≡ StatementMeta n' = same_kind s e e' in
      let same : n ≡ n' = cc in
      let q = one_After a a' (ap next s) in
      ((λ v. MoreStatements (q.0 v) (from_of (s v)) (Var (from_of (s v)) (next (s v)).last (same v)) (q.1 v)), q.2)
  one_Statements (AnyStatement e a) (OneStatement d a') s = absurd (kind_at IsOperandStart s e (starts_Expression d))
  one_Statements (OneStatement d a) (AnyStatement e a') s = absurd (kind_at IsOperandStart (sym s) e (starts_Expression d))
  one_Statements (AnyStatement e a) (BlankPeriod e' b) s = let k = same_kind s e e' in cc
  one_Statements (BlankPeriod e b) (AnyStatement e' a) s = let k = same_kind s e e' in cc
  one_Statements (AnyStatement e a) (Returned e' d f) s = let k = same_kind s e e' in cc
  one_Statements (Returned e d f) (AnyStatement e' a) s = let k = same_kind s e e' in cc
  one_Statements (AnyStatement e a) (NoMore h) s = absurd (kind_at NoStatement s e h)
  one_Statements (NoMore h) (AnyStatement e a) s = absurd (kind_at NoStatement (sym s) e h)
  one_Statements (BlankPeriod e b) (NoMore h) s = absurd (kind_at NoStatement s e h)
  one_Statements (NoMore h) (BlankPeriod e b) s = absurd (kind_at NoStatement (sym s) e h)
  one_Statements (BlankPeriod e b) (Returned e' d f) s = let k = same_kind s e e' in cc
  one_Statements (Returned e d f) (BlankPeriod e' b) s = let k = same_kind s e e' in cc
  one_Statements (BlankPeriod e b) (OneStatement d a) s = absurd (kind_at IsOperandStart s e (starts_Expression d))
  one_Statements (OneStatement d a) (BlankPeriod e b) s = absurd (kind_at IsOperandStart (sym s) e (starts_Expression d))
  one_Statements (Returned e d f) (NoMore h) s = absurd (kind_at NoStatement s e h)
  one_Statements (NoMore h) (Returned e d f) s = absurd (kind_at NoStatement (sym s) e h)
  one_Statements (Returned e d f) (OneStatement d' a) s = absurd (kind_at IsOperandStart s e (starts_Expression d'))
  one_Statements (OneStatement d' a) (Returned e d f) s = absurd (kind_at IsOperandStart (sym s) e (starts_Expression d'))
  one_Statements (NoMore h) (OneStatement d a) s = absurd (starts_here s d (NoStatement-NoOperand _ h))
  one_Statements (OneStatement d a) (NoMore h) s = absurd (starts_here (sym s) d (NoStatement-NoOperand _ h))

  -- what stands behind a statement: the tokens determine it
  pub one_After : {i j : Input} {c : Notes} {ss : SpannedStatements} → After Longest i c ss j → {i' j' : Input} {c' : Notes} {ss' : SpannedStatements} → After Longest i' c' ss' j' → i ≡ i' → (c ≡ c') × (ss ≡ ss') × (j ≡ j')
  one_After (Ended e b) (Ended e' b') s = let p = one_Statements b b' (ap (λ i. clear (next i)) s) in (ap (λ i. (next i).held) s, p.0, p.1)
  one_After (Ended e b) (Unended h) s = absurd (kind_at NoPeriod s e h)
  one_After (Unended h) (Ended e b) s = absurd (kind_at NoPeriod (sym s) e h)
  one_After (Unended h) (Unended h') s = (ap (λ (i : Input). i.held) s, refl, ap clear s)

  -- what stands behind a return: the tokens determine it
  pub one_Finish : {i j : Input} {c : Notes} → Finish Longest i c j → {i' j' : Input} {c' : Notes} → Finish Longest i' c' j' → i ≡ i' → (c ≡ c') × (j ≡ j')
  one_Finish (EndedReturn e p) (EndedReturn e' p') s = (ap (λ i. (next i).held) s, one_Periods p p' (ap (λ i. clear (next i)) s))
  one_Finish (EndedReturn e p) (UnendedReturn h) s = absurd (kind_at NoPeriod s e h)
  one_Finish (UnendedReturn h) (EndedReturn e p) s = absurd (kind_at NoPeriod (sym s) e h)
  one_Finish (UnendedReturn h) (UnendedReturn h') s = (ap (λ (i : Input). i.held) s, ap clear s)
