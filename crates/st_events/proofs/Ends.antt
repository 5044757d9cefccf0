-- What stands behind the parts of an expression, and where chains of messages begin.
use Rattle.std.proofs.Common.{◌≡◌, ℕ, Bool, true, false, refl, sym, ap, subst, ◌⊎◌, inl, inr}
use Rattle.grammar_model.specs.Terminal.{Text, NameKind, Ordinary, Super, KeywordKind, Sign, Terminal, Name, Keyword, Binary, Numeral, Constant, Opens, OperandMark, OperandMeta}
use Rattle.grammar_model.specs.Input.{Input, kind_of, from_of, next}
use Rattle.grammar_model.specs.Spanned.{SpannedTree, Var, SpannedTrees}
use Rattle.grammar_model.specs.Chain.{Chain, Waiting, Alone, Told, whole, sent, IsWhole}
use Rattle.grammar_model.specs.Ahead.{Longest, NoUnary, NoBinary, IsOperandStart}
use Rattle.grammar_model.specs.Grammar.{Operand, Variable, SuperName, MetaOperand, LiteralOperand, Grouped, BlockOperand, BraceOperand, Unaries, OneUnary, AnyUnary, NoUnaries, Binaries, OneBinary, NoBinaries, Keywords, OneKeywords, AnyKeywords, NoKeywords, Parts, LastPart, FurtherPart, Argument, BinaryArgument, KeywordArgument, ArgumentOfKeyword}
use Rattle.grammar_model.proofs.Reading.{IsReal, IsLiteralStart}
use Rattle.grammar_model.proofs.Recognizes.{ends_Unaries, ends_Binaries}
use Rattle.st_events.specs.declared.part.Row.{Row}
use Rattle.st_events.specs.declared.part.Row.TheVariants as row
use Rattle.st_events.specs.Classes.{is_super}
use Rattle.st_events.proofs.Running.{NotSuper}
use Rattle.st_events.proofs.LiteralEvents.{starts_LiteralAt}

-- no unary and no binary message goes on here
pub record NoOperator (k : Terminal) : Type 0 where
  pub name : NoUnary k
  pub binary : NoBinary k

-- behind the argument of a binary message
ends_Argument : {i j : Input} {t : SpannedTree} → Argument Longest i t j → NoUnary (kind_of j)
ends_Argument (BinaryArgument o us w) = ends_Unaries us

-- behind binary messages stands no unary selector where none stands before them
binaries_no_unary : {f : ℕ} {i j : Input} {r u : Chain} → Binaries Longest f r i u j → NoUnary (kind_of i) → NoUnary (kind_of j)
binaries_no_unary (OneBinary e a bs) h = binaries_no_unary bs (ends_Argument a)
binaries_no_unary (NoBinaries g) h = h

-- behind unary and binary messages
pub ends_operators : {f g : ℕ} {i k j : Input} {r u v w : Chain} → Unaries Longest f r i u k → Binaries Longest g v k w j → NoOperator (kind_of j)
ends_operators us bs = record { name = binaries_no_unary bs (ends_Unaries us); binary = ends_Binaries bs }

-- behind the argument of a keyword
pub ends_KeywordArgument : {i j : Input} {t : SpannedTree} → KeywordArgument Longest i t j → NoOperator (kind_of j)
ends_KeywordArgument (ArgumentOfKeyword o us bs w) = ends_operators us bs

-- behind the keywords of a message
pub ends_arguments : {i j : Input} {s : Text} {xs : SpannedTrees} → Parts Longest i s xs j → NoOperator (kind_of j)
ends_arguments (LastPart e x h) = ends_KeywordArgument x
ends_arguments (FurtherPart e x d) = ends_arguments d

-- the last message of a chain was sent to a text from this place on
abbrev pub ToldFrom : ℕ → Chain → Type 0
ToldFrom f (Told g e r s xs) = f ≡ g
ToldFrom f r = Unit {0}

-- one more message was
told_sent : (f e : ℕ) (r : Chain) (s : Text) (xs : SpannedTrees) → ToldFrom f (sent f e r s xs)
told_sent f e (Waiting g h n) s xs = tt
told_sent f e (Alone t) s xs = refl
told_sent f e (Told g h r t ys) s xs = refl

-- no message of an operand's own is told
told_Operand : {i j : Input} {r : Chain} → Operand Longest i r j → (f : ℕ) → ToldFrom f r
told_Operand (Variable e) f = tt
told_Operand (SuperName e) f = tt
told_Operand (MetaOperand e) f = tt
told_Operand (LiteralOperand d) f = tt
told_Operand (Grouped e d c) f = tt
told_Operand (BlockOperand e d c) f = tt
told_Operand (BraceOperand e d c) f = tt

-- unary messages
told_Unaries : {f : ℕ} {i j : Input} {r u : Chain} → Unaries Longest f r i u j → ToldFrom f r → ToldFrom f u
told_Unaries {f} {i} {r} (OneUnary {n} e us) h = told_Unaries us (told_sent f _ r n _)
told_Unaries {f} {i} {r} (AnyUnary {n} e us) h = told_Unaries us (told_sent f _ r n _)
told_Unaries (NoUnaries g) h = h

-- binary messages
told_Binaries : {f : ℕ} {i j : Input} {r u : Chain} → Binaries Longest f r i u j → ToldFrom f r → ToldFrom f u
told_Binaries {f} {r} (OneBinary {s} e a bs) h = told_Binaries bs (told_sent f _ r s _)
told_Binaries (NoBinaries g) h = h

-- a keyword message
told_Keywords : {f : ℕ} {i j : Input} {r u : Chain} → Keywords Longest f r i u j → ToldFrom f r → ToldFrom f u
told_Keywords {f} {r} (OneKeywords {s} d) h = told_sent f _ r s _
told_Keywords {f} {r} (AnyKeywords {s} d) h = told_sent f _ r s _
told_Keywords (NoKeywords g) h = h

-- the messages of an expression go to a text from one place on
pub told_messages : {f : ℕ} {i k l m n : Input} {r u b w : Chain} → Operand Longest i r k → Unaries Longest f r k u l → Binaries Longest f u l b m → Keywords Longest f b m w n → ToldFrom f w
told_messages {f} o us bs ks = told_Keywords ks (told_Binaries bs (told_Unaries us (told_Operand o f)))

-- neither an identifier nor a metavariable that stands as an operand
abbrev pub NoVariable : Terminal → Type 0
NoVariable (Name c n) = ⊥
NoVariable (OperandMeta m n) = ⊥
NoVariable k = Unit {0}

-- a literal begins with no variable
literal_no_variable : (k : Terminal) → IsLiteralStart k → NoVariable k
literal_no_variable (Name c n) h = absurd h
literal_no_variable (OperandMeta m n) h = absurd h
literal_no_variable k h = tt

-- an operand that is a name
pub record IsNamed (i : Input) (r : Chain) (j : Input) : Type 0 where
  pub kind : NameKind
  pub name : Text
  pub is : kind_of i ≡ Name kind name
  pub tree : whole r ≡ Var (from_of i) (next i).last name
  pub stop : j ≡ next i

-- an operand that is a metavariable
pub record IsAny (i : Input) (r : Chain) (j : Input) : Type 0 where
  pub mark : OperandMark
  pub name : Text
  pub is : kind_of i ≡ OperandMeta mark name
  pub tree : whole r ≡ Var (from_of i) (next i).last name
  pub stop : j ≡ next i

-- an operand is a name or a metavariable, or begins with neither
pub named_or_other : {i j : Input} {r : Chain} → Operand Longest i r j → IsNamed i r j ⊎ (IsAny i r j ⊎ NoVariable (kind_of i))
named_or_other (Variable {n} e) = inl (record { kind = Ordinary; name = n; is = e; tree = refl; stop = refl })
named_or_other (SuperName {n} e) = inl (record { kind = Super; name = n; is = e; tree = refl; stop = refl })
named_or_other (MetaOperand {m} {n} e) = inr (inl (record { mark = m; name = n; is = e; tree = refl; stop = refl }))
named_or_other {i} (LiteralOperand d) = inr (inr (literal_no_variable (kind_of i) (starts_LiteralAt d)))
named_or_other (Grouped e d c) = inr (inr (subst NoVariable (sym e) tt))
named_or_other (BlockOperand e d c) = inr (inr (subst NoVariable (sym e) tt))
named_or_other (BraceOperand e d c) = inr (inr (subst NoVariable (sym e) tt))

-- a token that begins an operand is not the end
pub real_operand : (k : Terminal) → IsOperandStart k → IsReal k
real_operand (Name c n) h = tt
real_operand (Binary Sign s) h = tt
real_operand (Numeral c t) h = tt
real_operand (Constant l) h = tt
real_operand (Opens o) h = tt
real_operand (OperandMeta m n) h = tt
real_operand k h = absurd h

-- the first keyword of a message
abbrev pub first_of_parts : {i j : Input} {s : Text} {xs : SpannedTrees} → Parts Longest i s xs j → (c : KeywordKind) × (k : Text) × (kind_of i ≡ Keyword c k)
first_of_parts (LastPart {c} {k} e x h) = (c, k, e)
first_of_parts (FurtherPart {c} {k} e x d) = (c, k, e)

-- super alone
abbrev pub is_waiting : Chain → Bool
is_waiting (Waiting f e n) = true
is_waiting r = false

-- a cascade can go on from the last message
abbrev pub told_by : Chain → Bool
told_by (Told f e r s xs) = true
told_by r = false

-- which messages may come, behind a binary message or not
abbrev pub row_at : Bool → Chain → Row
row_at b (Waiting f e n) = row.Super
row_at true r = row.Binary
row_at false r = row.Unary

-- a literal begins with no name
literal_not_super : (k : Terminal) → IsLiteralStart k → is_super k ≡ false
literal_not_super (Name c n) h = absurd h
literal_not_super k h = refl

-- an operand is super alone if its first token is super
pub super_waits : {i j : Input} {r : Chain} → Operand Longest i r j → is_super (kind_of i) ≡ is_waiting r
super_waits (Variable e) = ap is_super e
super_waits (SuperName e) = ap is_super e
super_waits (MetaOperand e) = ap is_super e
super_waits {i} (LiteralOperand d) = literal_not_super (kind_of i) (starts_LiteralAt d)
super_waits (Grouped e d c) = ap is_super e
super_waits (BlockOperand e d c) = ap is_super e
super_waits (BraceOperand e d c) = ap is_super e

-- no cascade can go on from an operand alone
pub fresh_Operand : {i j : Input} {r : Chain} → Operand Longest i r j → told_by r ≡ false
fresh_Operand (Variable e) = refl
fresh_Operand (SuperName e) = refl
fresh_Operand (MetaOperand e) = refl
fresh_Operand (LiteralOperand d) = refl
fresh_Operand (Grouped e d c) = refl
fresh_Operand (BlockOperand e d c) = refl
fresh_Operand (BraceOperand e d c) = refl

-- super is alone no more where a message came
pub whole_row : (b : Bool) (r : Chain) → IsWhole r → NotSuper (row_at b r)
whole_row b (Waiting f e n) w = absurd w
whole_row true (Alone t) w = tt
whole_row false (Alone t) w = tt
whole_row true (Told f e r s xs) w = tt
whole_row false (Told f e r s xs) w = tt
