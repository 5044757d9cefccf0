-- How the machine reads one token, and when a part of its stack does nothing.
use Rattle.std.proofs.Common.{◌≡◌, ℕ, Bool, true, false, List, [], ◌∷◌, Some, None, refl, ap, sym, ◌∙◌, subst}
use Rattle.std.specs.Prelude.{Option}
use Rattle.std.specs.Option.{option_map_or}
use Rattle.tree_model.specs.Tree.{Notes}
use Rattle.grammar_model.specs.Terminal.{Text, NameKind, Ordinary, Super, KeywordKind, BinaryKind, Sign, Less, Bar, SmallDigits, LargeDigits, Group, BlockStart, BraceStart, ArrayStart, BytesStart, Closing, GroupEnd, BlockEnd, BraceEnd, TextEnd, Terminal, Name, Keyword, Binary, Numeral, Constant, Opens, Closes, Assignment, Colon, Semicolon, Period, Caret, OperandMeta, AnyName, StatementMeta, AnyKey, MessageMeta}
use Rattle.grammar_model.specs.Input.{Lexeme, lex, first_kind, others}
use Rattle.grammar_model.specs.Spanned.{SpannedTree, SpannedTrees}
use Rattle.grammar_model.specs.Chain.{Chain, Waiting, Alone, Told, sent, IsWhole}
use Rattle.grammar_model.specs.Ahead.{NoName, NoKeyword, NoBinary, NoBar, NoSemicolon, NoColon, NoPeriod, NoDigits, NoElement, NoOperand, NoStatement, NoAssignment, IsOperandStart, NoUnary, NoKey}
use Rattle.grammar_model.specs.Machine.{Part, Stack, TheExpression, TheArgument, TheKeywordArgument, BehindName, BehindFirstSuper, BehindSuper, BehindSuperOfKeyword, BehindSuperOfBinary, UnaryOfBinary, UnaryOfKeyword, BinaryOfKeyword, UnaryMessages, BinaryMessages, KeywordMessages, TheCascade, TheElements, TheBytes, TheItems, FurtherItem, TheBlock, TheSequence, TheStatements, BehindStatement, BehindReturn, PatternRest, Awaits, begin_operand, body_part, step, wish, may_start, At, run, AnyArgument, BehindAnyMessage}

-- any token but the end of a text
abbrev pub IsReal : Terminal → Type 0
IsReal (Closes TextEnd) = ⊥
IsReal k = Unit {0}

-- one token is read
pub reads : (ss to : Stack) (ts : List Lexeme) (k : Terminal) → first_kind ts ≡ k → IsReal k → step ss k ≡ Some to → run ss ts ≡ run to (others ts)
reads ss to [] k e real s = absurd (subst IsReal (sym e) real)
reads ss to (lex c f b k' ∷ ts) k e real s = let o = ap (step ss) e ∙ s in ap (λ x. option_map_or (λ s. run s ts) x (Some (At (lex c f b k' ∷ ts) (wish ss) (may_start ss)))) o

-- a token that the stack can not read is wrong
pub wrong_at : (ss : Stack) (c : Notes) (f e : ℕ) (k : Terminal) (ts : List Lexeme) → step ss k ≡ None → run ss (lex c f e k ∷ ts) ≡ Some (At (lex c f e k ∷ ts) (wish ss) (may_start ss))
wrong_at ss c f e k ts s = ap (λ o. option_map_or (λ s. run s ts) o (Some (At (lex c f e k ∷ ts) (wish ss) (may_start ss)))) s

-- two stacks that read the next token alike
pub reads_alike : (ss tt to : Stack) (ts : List Lexeme) (k : Terminal) → first_kind ts ≡ k → IsReal k → step ss k ≡ Some to → step tt k ≡ Some to → run ss ts ≡ run tt ts
reads_alike ss tt to ts k e real s t = reads ss to ts k e real s ∙ sym (reads tt to ts k e real t)

-- the stack can read this token
pub record Takes (ss : Stack) (k : Terminal) : Type 0 where
  pub to : Stack
  pub steps : step ss k ≡ Some to

-- a default does not matter where there is a value
pub either_way : {A B : Type 0} (f : A → B) (o : Option A) (x : A) (a b : B) → o ≡ Some x → option_map_or f o a ≡ option_map_or f o b
either_way f o x a b e = ap (λ o. option_map_or f o a) e ∙ sym (ap (λ o. option_map_or f o b) e)

-- a closing mark that is awaited
pub takes_closing : (c : Closing) (k : Terminal) (ss : Stack) → k ≡ Closes c → Takes (Awaits c ∷ ss) k
takes_closing GroupEnd k ss e = record { to = ss; steps = ap (step (Awaits GroupEnd ∷ ss)) e }
takes_closing BlockEnd k ss e = record { to = ss; steps = ap (step (Awaits BlockEnd ∷ ss)) e }
takes_closing BraceEnd k ss e = record { to = ss; steps = ap (step (Awaits BraceEnd ∷ ss)) e }
takes_closing TextEnd k ss e = record { to = ss; steps = ap (step (Awaits TextEnd ∷ ss)) e }

-- where an expression may stand: alone, as a keyword's argument, or as a binary message's argument
pub data Position : Type 0 where
  InExpression : Position
  InKeyword : Position
  InBinary : Position

-- what reads an operand
abbrev pub operand_part : Position → Part
operand_part InExpression = TheExpression
operand_part InKeyword = TheKeywordArgument
operand_part InBinary = TheArgument

-- what reads unary messages
abbrev pub unary_part : Position → Chain → Part
unary_part InExpression (Waiting f e n) = BehindSuper
unary_part InExpression (Alone t) = UnaryMessages false
unary_part InExpression (Told f e r s xs) = UnaryMessages true
unary_part InKeyword (Waiting f e n) = BehindSuperOfKeyword
unary_part InKeyword r = UnaryOfKeyword
unary_part InBinary (Waiting f e n) = BehindSuperOfBinary
unary_part InBinary r = UnaryOfBinary

-- what reads binary messages of a keyword's argument
abbrev pub argument_part : Chain → Part
argument_part (Waiting f e n) = BehindSuperOfKeyword
argument_part r = BinaryOfKeyword

-- what reads binary messages of an expression
abbrev pub binary_part : Chain → Part
binary_part (Waiting f e n) = BehindSuper
binary_part (Alone t) = BinaryMessages false
binary_part (Told f e r s xs) = BinaryMessages true

-- what reads a cascade
abbrev pub cascade_part : Chain → Part
cascade_part (Waiting f e n) = BehindSuper
cascade_part (Alone t) = KeywordMessages false
cascade_part (Told f e r s xs) = KeywordMessages true

-- whether a cascade can go on from a further message
abbrev pub is_told : Chain → Bool
is_told (Waiting f e n) = false
is_told r = true

-- tokens that begin a literal
abbrev pub IsLiteralStart : Terminal → Type 0
IsLiteralStart (Binary Sign s) = Unit {0}
IsLiteralStart (Numeral c t) = Unit {0}
IsLiteralStart (Constant l) = Unit {0}
IsLiteralStart (Opens ArrayStart) = Unit {0}
IsLiteralStart (Opens BytesStart) = Unit {0}
IsLiteralStart k = ⊥

-- tokens that are no identifier
pub step-operand : (p : Position) (k : Terminal) (ss : Stack) (t : SpannedTree) → NoName k → step (operand_part p ∷ ss) k ≡ begin_operand k (unary_part p (Alone t) ∷ ss) None
step-operand InExpression (Name c n) ss t h = absurd h
step-operand InExpression k ss t h = refl
step-operand InKeyword (Name c n) ss t h = absurd h
step-operand InKeyword k ss t h = refl
step-operand InBinary (Name c n) ss t h = absurd h
step-operand InBinary k ss t h = refl

-- a unary message
pub step-unary : (p : Position) (r : Chain) (c : NameKind) (n : Text) (ss : Stack) (f e : ℕ) (s : Text) (xs : SpannedTrees) → step (unary_part p r ∷ ss) (Name c n) ≡ Some (unary_part p (sent f e r s xs) ∷ ss)
step-unary InExpression (Waiting a b m) c n ss f e s xs = refl
step-unary InExpression (Alone t) c n ss f e s xs = refl
step-unary InExpression (Told a b r m ys) c n ss f e s xs = refl
step-unary InKeyword (Waiting a b m) c n ss f e s xs = refl
step-unary InKeyword (Alone t) c n ss f e s xs = refl
step-unary InKeyword (Told a b r m ys) c n ss f e s xs = refl
step-unary InBinary (Waiting a b m) c n ss f e s xs = refl
step-unary InBinary (Alone t) c n ss f e s xs = refl
step-unary InBinary (Told a b r m ys) c n ss f e s xs = refl

-- any unary message is read
pub step-any_unary : (p : Position) (r : Chain) (n : Text) (ss : Stack) (f e : ℕ) (s : Text) (xs : SpannedTrees) → step (unary_part p r ∷ ss) (OperandMeta AnyName n) ≡ Some (unary_part p (sent f e r s xs) ∷ ss)
step-any_unary InExpression (Waiting a b m) n ss f e s xs = refl
step-any_unary InExpression (Alone t) n ss f e s xs = refl
step-any_unary InExpression (Told a b r m ys) n ss f e s xs = refl
step-any_unary InKeyword (Waiting a b m) n ss f e s xs = refl
step-any_unary InKeyword (Alone t) n ss f e s xs = refl
step-any_unary InKeyword (Told a b r m ys) n ss f e s xs = refl
step-any_unary InBinary (Waiting a b m) n ss f e s xs = refl
step-any_unary InBinary (Alone t) n ss f e s xs = refl
step-any_unary InBinary (Told a b r m ys) n ss f e s xs = refl

-- a binary message of a keyword's argument
pub step-argument : (r : Chain) (c : BinaryKind) (n : Text) (ss : Stack) (f e : ℕ) (s : Text) (xs : SpannedTrees) → step (argument_part r ∷ ss) (Binary c n) ≡ Some (TheArgument ∷ argument_part (sent f e r s xs) ∷ ss)
step-argument (Waiting a b m) c n ss f e s xs = refl
step-argument (Alone t) c n ss f e s xs = refl
step-argument (Told a b r m ys) c n ss f e s xs = refl

-- a binary message of an expression
pub step-binary : (r : Chain) (c : BinaryKind) (n : Text) (ss : Stack) (f e : ℕ) (s : Text) (xs : SpannedTrees) → step (binary_part r ∷ ss) (Binary c n) ≡ Some (TheArgument ∷ binary_part (sent f e r s xs) ∷ ss)
step-binary (Waiting a b m) c n ss f e s xs = refl
step-binary (Alone t) c n ss f e s xs = refl
step-binary (Told a b r m ys) c n ss f e s xs = refl

-- a keyword
pub step-keyword : (r : Chain) (c : KeywordKind) (n : Text) (ss : Stack) → step (binary_part r ∷ ss) (Keyword c n) ≡ Some (TheKeywordArgument ∷ KeywordMessages (is_told r) ∷ ss)
step-keyword (Waiting a b m) c n ss = refl
step-keyword (Alone t) c n ss = refl
step-keyword (Told a b r m ys) c n ss = refl

-- any message
pub step-any_message : (r : Chain) (n : Text) (ss : Stack) → step (binary_part r ∷ ss) (MessageMeta n) ≡ Some (AnyArgument ∷ BehindAnyMessage (is_told r) ∷ ss)
step-any_message (Waiting a b m) n ss = refl
step-any_message (Alone t) n ss = refl
step-any_message (Told a b r m ys) n ss = refl

-- what reads a cascade behind one more message
pub cascade_part-sent : (f e : ℕ) (r : Chain) (s : Text) (xs : SpannedTrees) → cascade_part (sent f e r s xs) ≡ KeywordMessages (is_told r)
cascade_part-sent f e (Waiting a b m) s xs = refl
cascade_part-sent f e (Alone t) s xs = refl
cascade_part-sent f e (Told a b r m ys) s xs = refl

-- behind unary messages
pub unary_end-argument : (ts : List Lexeme) (u : Chain) (ss : Stack) → NoUnary (first_kind ts) → run (unary_part InKeyword u ∷ ss) ts ≡ run (argument_part u ∷ ss) ts
unary_end-argument ts (Waiting f e n) ss h = refl
unary_end-argument [] (Alone t) ss h = refl
unary_end-argument (lex c f e (Name k n) ∷ ts) (Alone t) ss h = absurd h
unary_end-argument (lex c f e (OperandMeta AnyName n) ∷ ts) (Alone t) ss h = absurd h
unary_end-argument (lex c f e k ∷ ts) (Alone t) ss h = refl
unary_end-argument [] (Told a b r s xs) ss h = refl
unary_end-argument (lex c f e (Name k n) ∷ ts) (Told a b r s xs) ss h = absurd h
unary_end-argument (lex c f e (OperandMeta AnyName n) ∷ ts) (Told a b r s xs) ss h = absurd h
unary_end-argument (lex c f e k ∷ ts) (Told a b r s xs) ss h = refl

-- the same in an expression
pub unary_end-expression : (ts : List Lexeme) (u : Chain) (ss : Stack) → NoUnary (first_kind ts) → run (unary_part InExpression u ∷ ss) ts ≡ run (binary_part u ∷ ss) ts
unary_end-expression ts (Waiting f e n) ss h = refl
unary_end-expression [] (Alone t) ss h = refl
unary_end-expression (lex c f e (Name k n) ∷ ts) (Alone t) ss h = absurd h
unary_end-expression (lex c f e (OperandMeta AnyName n) ∷ ts) (Alone t) ss h = absurd h
unary_end-expression (lex c f e k ∷ ts) (Alone t) ss h = refl
unary_end-expression [] (Told a b r s xs) ss h = refl
unary_end-expression (lex c f e (Name k n) ∷ ts) (Told a b r s xs) ss h = absurd h
unary_end-expression (lex c f e (OperandMeta AnyName n) ∷ ts) (Told a b r s xs) ss h = absurd h
unary_end-expression (lex c f e k ∷ ts) (Told a b r s xs) ss h = refl

-- the same in a binary message's argument
pub unary_end-binary : (ts : List Lexeme) (u : Chain) (ss : Stack) → IsWhole u → NoUnary (first_kind ts) → run (unary_part InBinary u ∷ ss) ts ≡ run ss ts
unary_end-binary ts (Waiting f e n) ss w h = absurd w
unary_end-binary [] (Alone t) ss w h = refl
unary_end-binary (lex c f e (Name k n) ∷ ts) (Alone t) ss w h = absurd h
unary_end-binary (lex c f e (OperandMeta AnyName n) ∷ ts) (Alone t) ss w h = absurd h
unary_end-binary (lex c f e k ∷ ts) (Alone t) ss w h = refl
unary_end-binary [] (Told a b r s xs) ss w h = refl
unary_end-binary (lex c f e (Name k n) ∷ ts) (Told a b r s xs) ss w h = absurd h
unary_end-binary (lex c f e (OperandMeta AnyName n) ∷ ts) (Told a b r s xs) ss w h = absurd h
unary_end-binary (lex c f e k ∷ ts) (Told a b r s xs) ss w h = refl

-- behind the binary messages of a keyword's argument
pub argument_end : (ts : List Lexeme) (u : Chain) (ss : Stack) → IsWhole u → NoBinary (first_kind ts) → run (argument_part u ∷ ss) ts ≡ run ss ts
argument_end ts (Waiting f e n) ss w h = absurd w
argument_end [] (Alone t) ss w h = refl
argument_end (lex c f e (Binary k n) ∷ ts) (Alone t) ss w h = absurd h
argument_end (lex c f e k ∷ ts) (Alone t) ss w h = refl
argument_end [] (Told a b r s xs) ss w h = refl
argument_end (lex c f e (Binary k n) ∷ ts) (Told a b r s xs) ss w h = absurd h
argument_end (lex c f e k ∷ ts) (Told a b r s xs) ss w h = refl

-- behind the binary messages of an expression where no keyword stands
pub binary_end : (ts : List Lexeme) (u : Chain) (ss : Stack) → NoBinary (first_kind ts) → NoKey (first_kind ts) → run (binary_part u ∷ ss) ts ≡ run (cascade_part u ∷ ss) ts
binary_end ts (Waiting f e n) ss b h = refl
binary_end [] (Alone t) ss b h = refl
binary_end (lex c f e (Binary k n) ∷ ts) (Alone t) ss b h = absurd b
binary_end (lex c f e (Keyword k n) ∷ ts) (Alone t) ss b h = absurd h
binary_end (lex c f e (MessageMeta n) ∷ ts) (Alone t) ss b h = absurd h
binary_end (lex c f e k ∷ ts) (Alone t) ss b h = refl
binary_end [] (Told a d r s xs) ss b h = refl
binary_end (lex c f e (Binary k n) ∷ ts) (Told a d r s xs) ss b h = absurd b
binary_end (lex c f e (Keyword k n) ∷ ts) (Told a d r s xs) ss b h = absurd h
binary_end (lex c f e (MessageMeta n) ∷ ts) (Told a d r s xs) ss b h = absurd h
binary_end (lex c f e k ∷ ts) (Told a d r s xs) ss b h = refl

-- where no keyword and no cascade follows
pub cascade_end : (ts : List Lexeme) (u : Chain) (ss : Stack) → IsWhole u → NoKey (first_kind ts) → NoSemicolon (first_kind ts) → run (cascade_part u ∷ ss) ts ≡ run ss ts
cascade_end ts (Waiting f e n) ss w k h = absurd w
cascade_end [] (Alone t) ss w k h = refl
cascade_end (lex c f e (Keyword m n) ∷ ts) (Alone t) ss w k h = absurd k
cascade_end (lex c f e (MessageMeta n) ∷ ts) (Alone t) ss w k h = absurd k
cascade_end (lex c f e Semicolon ∷ ts) (Alone t) ss w k h = absurd h
cascade_end (lex c f e m ∷ ts) (Alone t) ss w k h = refl
cascade_end [] (Told a b r s xs) ss w k h = refl
cascade_end (lex c f e (Keyword m n) ∷ ts) (Told a b r s xs) ss w k h = absurd k
cascade_end (lex c f e (MessageMeta n) ∷ ts) (Told a b r s xs) ss w k h = absurd k
cascade_end (lex c f e Semicolon ∷ ts) (Told a b r s xs) ss w k h = absurd h
cascade_end (lex c f e m ∷ ts) (Told a b r s xs) ss w k h = refl

-- behind keywords from whose receiver a cascade can go on
pub keywords_end : (ts : List Lexeme) (ss : Stack) → NoKey (first_kind ts) → run (KeywordMessages true ∷ ss) ts ≡ run (TheCascade ∷ ss) ts
keywords_end [] ss h = refl
keywords_end (lex c f e (Keyword m n) ∷ ts) ss h = absurd h
keywords_end (lex c f e (MessageMeta n) ∷ ts) ss h = absurd h
keywords_end (lex c f e k ∷ ts) ss h = refl

-- behind any message as behind keywords
pub any_end : (ts : List Lexeme) (told : Bool) (ss : Stack) → NoKey (first_kind ts) → run (BehindAnyMessage told ∷ ss) ts ≡ run (KeywordMessages told ∷ ss) ts
any_end [] told ss h = refl
any_end (lex c f e (Keyword m n) ∷ ts) told ss h = absurd h
any_end (lex c f e (MessageMeta n) ∷ ts) told ss h = absurd h
any_end (lex c f e k ∷ ts) told ss h = refl

-- behind the messages of a cascade
pub messages_end : (ts : List Lexeme) (ss : Stack) → NoSemicolon (first_kind ts) → run (TheCascade ∷ ss) ts ≡ run ss ts
messages_end [] ss h = refl
messages_end (lex c f e Semicolon ∷ ts) ss h = absurd h
messages_end (lex c f e k ∷ ts) ss h = refl

-- behind a statement, a return and an item of a brace array
pub statement_end : (ts : List Lexeme) (ss : Stack) → NoPeriod (first_kind ts) → run (BehindStatement ∷ ss) ts ≡ run ss ts
statement_end [] ss h = refl
statement_end (lex c f e Period ∷ ts) ss h = absurd h
statement_end (lex c f e k ∷ ts) ss h = refl

-- behind a return
pub return_end : (ts : List Lexeme) (ss : Stack) → NoPeriod (first_kind ts) → run (BehindReturn ∷ ss) ts ≡ run ss ts
return_end [] ss h = refl
return_end (lex c f e Period ∷ ts) ss h = absurd h
return_end (lex c f e k ∷ ts) ss h = refl

-- behind an item of a brace array
pub item_end : (ts : List Lexeme) (ss : Stack) → NoPeriod (first_kind ts) → run (FurtherItem ∷ ss) ts ≡ run ss ts
item_end [] ss h = refl
item_end (lex c f e Period ∷ ts) ss h = absurd h
item_end (lex c f e k ∷ ts) ss h = refl

-- where another kind of token could stand too, the end has to be one that fits
pub elements_end : (ts : List Lexeme) (ss : Stack) → NoElement (first_kind ts) → Takes ss (first_kind ts) → run (TheElements ∷ ss) ts ≡ run ss ts
elements_end [] ss h t = refl
elements_end (lex c f e (Name k n) ∷ ts) ss h t = absurd h
elements_end (lex c f e (Keyword AnyKey n) ∷ ts) ss h t = either_way _ _ _ _ _ t.steps
elements_end (lex c f e (Keyword k n) ∷ ts) ss h t = absurd h
elements_end (lex c f e (Binary k n) ∷ ts) ss h t = absurd h
elements_end (lex c f e (Numeral k n) ∷ ts) ss h t = absurd h
elements_end (lex c f e (Constant l) ∷ ts) ss h t = absurd h
elements_end (lex c f e (Opens BraceStart) ∷ ts) ss h t = either_way _ _ _ _ _ t.steps
elements_end (lex c f e (Opens o) ∷ ts) ss h t = absurd h
elements_end (lex c f e k ∷ ts) ss h t = either_way _ _ _ _ _ t.steps

-- behind the numerals of a byte array
pub bytes_end : (ts : List Lexeme) (ss : Stack) → NoDigits (first_kind ts) → Takes ss (first_kind ts) → run (TheBytes ∷ ss) ts ≡ run ss ts
bytes_end [] ss h t = refl
bytes_end (lex c f e (Numeral SmallDigits n) ∷ ts) ss h t = absurd h
bytes_end (lex c f e (Numeral LargeDigits n) ∷ ts) ss h t = absurd h
bytes_end (lex c f e k ∷ ts) ss h t = either_way _ _ _ _ _ t.steps

-- behind the items of a brace array
pub items_end : (ts : List Lexeme) (ss : Stack) → NoOperand (first_kind ts) → Takes ss (first_kind ts) → run (TheItems ∷ ss) ts ≡ run ss ts
items_end [] ss h t = refl
items_end (lex c f e (Name k n) ∷ ts) ss h t = absurd h
items_end (lex c f e (Binary Sign n) ∷ ts) ss h t = absurd h
items_end (lex c f e (Numeral k n) ∷ ts) ss h t = absurd h
items_end (lex c f e (Constant l) ∷ ts) ss h t = absurd h
items_end (lex c f e (Opens o) ∷ ts) ss h t = absurd h
items_end (lex c f e (OperandMeta m n) ∷ ts) ss h t = absurd h
items_end (lex c f e k ∷ ts) ss h t = either_way _ _ _ _ _ t.steps

-- behind statements
pub statements_end : (ts : List Lexeme) (ss : Stack) → NoStatement (first_kind ts) → Takes ss (first_kind ts) → run (TheStatements ∷ ss) ts ≡ run ss ts
statements_end [] ss h t = refl
statements_end (lex c f e (Name k n) ∷ ts) ss h t = absurd h
statements_end (lex c f e (Binary Sign n) ∷ ts) ss h t = absurd h
statements_end (lex c f e (Numeral k n) ∷ ts) ss h t = absurd h
statements_end (lex c f e (Constant l) ∷ ts) ss h t = absurd h
statements_end (lex c f e (Opens o) ∷ ts) ss h t = absurd h
statements_end (lex c f e (OperandMeta m n) ∷ ts) ss h t = absurd h
statements_end (lex c f e Caret ∷ ts) ss h t = absurd h
statements_end (lex c f e (StatementMeta n) ∷ ts) ss h t = absurd h
statements_end (lex c f e Period ∷ ts) ss h t = absurd h
statements_end (lex c f e k ∷ ts) ss h t = either_way _ _ _ _ _ t.steps

-- behind the first name of an expression that is no assignment, messages may follow
behind_name : (ts : List Lexeme) (n : Text) (ss : Stack) → NoAssignment (Name Ordinary n) (first_kind ts) → run (BehindName ∷ ss) ts ≡ run (UnaryMessages false ∷ ss) ts
behind_name [] n ss h = refl
behind_name (lex c f e Assignment ∷ ts) n ss h = absurd h
behind_name (lex c f e k ∷ ts) n ss h = refl

-- behind super there too
behind_super : (ts : List Lexeme) (n : Text) (ss : Stack) → NoAssignment (Name Super n) (first_kind ts) → run (BehindFirstSuper ∷ ss) ts ≡ run (BehindSuper ∷ ss) ts
behind_super [] n ss h = refl
behind_super (lex c f e Assignment ∷ ts) n ss h = absurd h
behind_super (lex c f e k ∷ ts) n ss h = refl

-- no assignment may follow a name that is an expression's operand
abbrev pub MayBeOperand : Position → List Lexeme → Type 0
MayBeOperand InExpression ts = NoAssignment (first_kind ts) (first_kind (others ts))
MayBeOperand p ts = Unit {0}

-- a name that is an operand is read
pub reads_name : (p : Position) (ts : List Lexeme) (n : Text) (t : SpannedTree) (ss : Stack) → MayBeOperand p ts → first_kind ts ≡ Name Ordinary n → run (operand_part p ∷ ss) ts ≡ run (unary_part p (Alone t) ∷ ss) (others ts)
reads_name InExpression ts n t ss h e = reads _ _ ts (Name Ordinary n) e tt refl ∙ behind_name (others ts) n ss (subst (λ k. NoAssignment k (first_kind (others ts))) e h)
reads_name InKeyword ts n t ss h e = reads _ _ ts (Name Ordinary n) e tt refl
reads_name InBinary ts n t ss h e = reads _ _ ts (Name Ordinary n) e tt refl

-- super is read
pub reads_super : (p : Position) (ts : List Lexeme) (f e : ℕ) (n : Text) (ss : Stack) → MayBeOperand p ts → first_kind ts ≡ Name Super n → run (operand_part p ∷ ss) ts ≡ run (unary_part p (Waiting f e n) ∷ ss) (others ts)
reads_super InExpression ts f e n ss m h = reads _ _ ts (Name Super n) h tt refl ∙ behind_super (others ts) n ss (subst (λ k. NoAssignment k (first_kind (others ts))) h m)
reads_super InKeyword ts f e n ss m h = reads _ _ ts (Name Super n) h tt refl
reads_super InBinary ts f e n ss m h = reads _ _ ts (Name Super n) h tt refl

-- a statement stands where an operand can begin
pub as_statement : (ts : List Lexeme) (ss : Stack) → IsOperandStart (first_kind ts) → run (TheStatements ∷ ss) ts ≡ run (TheExpression ∷ BehindStatement ∷ ss) ts
as_statement [] ss h = absurd h
as_statement (lex c f e (Name Ordinary n) ∷ ts) ss h = refl
as_statement (lex c f e (Name Super n) ∷ ts) ss h = refl
as_statement (lex c f e (Binary Sign n) ∷ ts) ss h = refl
as_statement (lex c f e (Numeral k n) ∷ ts) ss h = refl
as_statement (lex c f e (Constant l) ∷ ts) ss h = refl
as_statement (lex c f e (Opens Group) ∷ ts) ss h = refl
as_statement (lex c f e (Opens BlockStart) ∷ ts) ss h = refl
as_statement (lex c f e (Opens BraceStart) ∷ ts) ss h = refl
as_statement (lex c f e (Opens ArrayStart) ∷ ts) ss h = refl
as_statement (lex c f e (Opens BytesStart) ∷ ts) ss h = refl
as_statement (lex c f e (OperandMeta m n) ∷ ts) ss h = refl
as_statement (lex c f e k ∷ ts) ss h = absurd h

-- an item of a brace array stands there too
pub as_item : (ts : List Lexeme) (ss : Stack) → IsOperandStart (first_kind ts) → run (TheItems ∷ ss) ts ≡ run (TheExpression ∷ FurtherItem ∷ ss) ts
as_item [] ss h = absurd h
as_item (lex c f e (Name Ordinary n) ∷ ts) ss h = refl
as_item (lex c f e (Name Super n) ∷ ts) ss h = refl
as_item (lex c f e (Binary Sign n) ∷ ts) ss h = refl
as_item (lex c f e (Numeral k n) ∷ ts) ss h = refl
as_item (lex c f e (Constant l) ∷ ts) ss h = refl
as_item (lex c f e (Opens Group) ∷ ts) ss h = refl
as_item (lex c f e (Opens BlockStart) ∷ ts) ss h = refl
as_item (lex c f e (Opens BraceStart) ∷ ts) ss h = refl
as_item (lex c f e (Opens ArrayStart) ∷ ts) ss h = refl
as_item (lex c f e (Opens BytesStart) ∷ ts) ss h = refl
as_item (lex c f e (OperandMeta m n) ∷ ts) ss h = refl
as_item (lex c f e k ∷ ts) ss h = absurd h

-- a block without parameters is a sequence
pub as_sequence : (ts : List Lexeme) (ss : Stack) → NoColon (first_kind ts) → run (TheBlock ∷ ss) ts ≡ run (TheSequence ∷ ss) ts
as_sequence [] ss h = refl
as_sequence (lex c f e Colon ∷ ts) ss h = absurd h
as_sequence (lex c f e k ∷ ts) ss h = refl

-- a sequence without temporaries is statements
pub as_statements : (ts : List Lexeme) (ss : Stack) → NoBar (first_kind ts) → run (TheSequence ∷ ss) ts ≡ run (TheStatements ∷ ss) ts
as_statements [] ss h = refl
as_statements (lex c f e (Binary Bar s) ∷ ts) ss h = absurd h
as_statements (lex c f e k ∷ ts) ss h = refl

-- the bracket of primitives does not stand there
abbrev pub NoLess : Terminal → Type 0
NoLess (Binary Less s) = ⊥
NoLess k = Unit {0}

-- a method's body without a primitive is a sequence
pub as_body : (kernel : Bool) (ts : List Lexeme) (ss : Stack) → NoLess (first_kind ts) → run (body_part kernel ∷ ss) ts ≡ run (TheSequence ∷ ss) ts
as_body false ts ss h = refl
as_body true [] ss h = refl
as_body true (lex c f e (Binary Less s) ∷ ts) ss h = absurd h
as_body true (lex c f e k ∷ ts) ss h = refl

-- behind the last keyword of a pattern stands the body
pub pattern_end : (kernel : Bool) (ts : List Lexeme) (ss : Stack) → NoKeyword (first_kind ts) → run (PatternRest kernel ∷ ss) ts ≡ run (body_part kernel ∷ ss) ts
pattern_end false [] ss h = refl
pattern_end false (lex c f e (Keyword k n) ∷ ts) ss h = absurd h
pattern_end false (lex c f e k ∷ ts) ss h = refl
pattern_end true [] ss h = refl
pattern_end true (lex c f e (Keyword k n) ∷ ts) ss h = absurd h
pattern_end true (lex c f e k ∷ ts) ss h = refl
