-- What it is to read an expression, and operands in parentheses or without.
use Rattle.std.proofs.Common.{◌≡◌, ℕ, ◌+◌, ◌≤◌, Bool, true, false, [], ◌∷◌, ◌++◌, arith, refl, ap, sym, append_assoc}
use Rattle.std.specs.Prelude.{codes, if◌then◌else◌}
use Rattle.std.proofs.lemmas.Bool.{false≢true}
use Rattle.tree_model.specs.Tree.{Notes, TreeOf, var, literal, send, cascade, assign, block, brace, return}
use Rattle.tree_model.specs.Measure.{height}
use Rattle.text_model.specs.declared.precedence.Precedence.{Precedence}
use Rattle.text_model.specs.declared.precedence.Precedence.TheVariants as loose
use Rattle.text_model.specs.Precedences.{precedence_of, is_looser, operand_text}
use Rattle.text_model.specs.Expressions.{expression_text}
use Rattle.grammar_model.specs.Terminal.{Text, NameKind, BinaryKind, Name, Binary, Group, GroupEnd, Caret}
use Rattle.grammar_model.specs.Input.{Input, kind_of, from_of, next}
use Rattle.grammar_model.specs.Spanned.{SpannedTree, SpannedTrees, NoTrees, one_tree, plain_tree, plain_trees}
use Rattle.grammar_model.specs.Chain.{Chain, Waiting, Alone, Told, whole, sent, IsWhole}
use Rattle.grammar_model.specs.Ahead.{Any}
use Rattle.grammar_model.specs.Grammar.{Expression, Simple, Operand, Grouped, Unaries, OneUnary, NoUnaries, Binaries, OneBinary, NoBinaries, Keywords, NoKeywords, Argument, BinaryArgument, KeywordArgument, ArgumentOfKeyword, NoCascade, AnyUnary}
use Rattle.reread_law.specs.WellFormed.{IsValue, NoReturn}
use Rattle.reread_law.proofs.Bytes.{ends}
use Rattle.reread_law.proofs.Words.{open_word, close_word}
use Rattle.reread_law.proofs.Steps.{World, Here, Fresh, step, held_as, text_as, counts_open, counts_close}

-- an operand with its unary messages was read
pub record UnaryRead (w : World) (n : ℕ) (i : Input) (h : Notes) (t : TreeOf Text) (s : Text) : Type 0 where
  pub first : Chain
  pub middle : Input
  pub last : Chain
  pub stop : Input
  pub operand : Operand Any i first middle
  pub unaries : Unaries Any (from_of i) first middle last stop
  pub plain : plain_tree (whole last) ≡ t
  pub value : IsValue t → IsWhole last
  pub held : stop.held ≡ h
  pub fresh : Fresh w n stop s

-- an operand with its unary and binary messages was read
pub record BinaryRead (w : World) (n : ℕ) (i : Input) (h : Notes) (t : TreeOf Text) (s : Text) : Type 0 where
  pub first : Chain
  pub middle : Input
  pub second : Chain
  pub later : Input
  pub last : Chain
  pub stop : Input
  pub operand : Operand Any i first middle
  pub unaries : Unaries Any (from_of i) first middle second later
  pub binaries : Binaries Any (from_of i) second later last stop
  pub plain : plain_tree (whole last) ≡ t
  pub value : IsValue t → IsWhole last
  pub held : stop.held ≡ h
  pub fresh : Fresh w n stop s

-- an operand with all its messages but a cascade was read
pub record KeywordRead (w : World) (n : ℕ) (i : Input) (h : Notes) (t : TreeOf Text) (s : Text) : Type 0 where
  pub first : Chain
  pub middle : Input
  pub second : Chain
  pub later : Input
  pub third : Chain
  pub latest : Input
  pub last : Chain
  pub stop : Input
  pub operand : Operand Any i first middle
  pub unaries : Unaries Any (from_of i) first middle second later
  pub binaries : Binaries Any (from_of i) second later third latest
  pub keywords : Keywords Any (from_of i) third latest last stop
  pub plain : plain_tree (whole last) ≡ t
  pub value : IsValue t → IsWhole last
  pub held : stop.held ≡ h
  pub fresh : Fresh w n stop s

-- an expression was read
pub record ExpressionRead (w : World) (n : ℕ) (i : Input) (h : Notes) (t : TreeOf Text) (s : Text) : Type 0 where
  pub tree : SpannedTree
  pub stop : Input
  pub expression : Expression Any i tree stop
  pub plain : plain_tree tree ≡ t
  pub held : stop.held ≡ h
  pub fresh : Fresh w n stop s

-- a return was read
pub record ReturnRead (w : World) (n : ℕ) (i : Input) (h : Notes) (t : TreeOf Text) (s : Text) : Type 0 where
  pub tree : SpannedTree
  pub stop : Input
  pub kind : kind_of i ≡ Caret
  pub expression : Expression Any (next i) tree stop
  pub plain : return (plain_tree tree) ≡ t
  pub held : stop.held ≡ h
  pub fresh : Fresh w n stop s

-- without binary messages
abbrev pub to_binary : {w : World} {n : ℕ} {i : Input} {h : Notes} {t : TreeOf Text} {s : Text} → UnaryRead w n i h t s → BinaryRead w n i h t s
to_binary r = record { first = r.first; middle = r.middle; second = r.last; later = r.stop; last = r.last; stop = r.stop; operand = r.operand; unaries = r.unaries; binaries = NoBinaries tt; plain = r.plain; value = r.value; held = r.held; fresh = r.fresh }

-- without keywords
abbrev pub to_keyword : {w : World} {n : ℕ} {i : Input} {h : Notes} {t : TreeOf Text} {s : Text} → BinaryRead w n i h t s → KeywordRead w n i h t s
to_keyword r = record { first = r.first; middle = r.middle; second = r.second; later = r.later; third = r.last; latest = r.stop; last = r.last; stop = r.stop; operand = r.operand; unaries = r.unaries; binaries = r.binaries; keywords = NoKeywords tt; plain = r.plain; value = r.value; held = r.held; fresh = r.fresh }

-- without a cascade
pub to_expression : {w : World} {n : ℕ} {i : Input} {h : Notes} {t : TreeOf Text} {s : Text} → IsValue t → KeywordRead w n i h t s → ExpressionRead w n i h t s
to_expression v r = record { tree = whole r.last; stop = r.stop; expression = Simple tt r.operand r.unaries r.binaries r.keywords (NoCascade (r.value v) tt); plain = r.plain; held = r.held; fresh = r.fresh }

-- the texts of a tree, read in front of others, in each of these ways
abbrev pub Reads : (World → ℕ → Input → Notes → TreeOf Text → Text → Type 0) → TreeOf Text → Type 0
Reads Result t = (w : World) (n k : ℕ) (i : Input) (h : Notes) (s : Text) → ends s ≡ true → n + height t ≤ 400 → Here w n i h (expression_text k t ++ s) → Result w n i h t s

-- a return
abbrev pub IsReturn : TreeOf Text → Type 0
IsReturn (return t) = Unit {0}
IsReturn t = ⊥

-- the canonical text of a tree is read as that tree
pub record CanRead (t : TreeOf Text) : Type 0 where
  pub unary : precedence_of t ≡ loose.Unary → NoReturn t → Reads UnaryRead t
  pub binary : is_looser (precedence_of t) loose.Binary ≡ false → NoReturn t → Reads BinaryRead t
  pub expression : IsValue t → Reads ExpressionRead t
  pub returned : IsReturn t → Reads ReturnRead t

-- a tree that holds together by itself
pub can_unary : (t : TreeOf Text) → (IsReturn t → ⊥) → Reads UnaryRead t → CanRead t
can_unary t non r = record {
  unary = λ e f. r;
  binary = λ e f w n k i h s g le a. to_binary (r w n k i h s g le a);
  expression = λ v w n k i h s g le a. to_expression v (to_keyword (to_binary (r w n k i h s g le a)));
  returned = λ x. absurd (non x);
}

-- only a variable or a return is no value, and both hold together
loose_value : (t : TreeOf Text) (q : Precedence) → is_looser (precedence_of t) q ≡ true → IsValue t
loose_value (var n) q h = absurd (false≢true h)
loose_value (return t) q h = absurd (false≢true h)
loose_value (literal l) q h = tt
loose_value (send r s xs) q h = tt
loose_value (cascade r ms) q h = tt
loose_value (assign n t) q h = tt
loose_value (block ps ts ss e) q h = tt
loose_value (brace ts) q h = tt

-- what is not looser than a unary message is as tight
tight_unary : (p : Precedence) → is_looser p loose.Unary ≡ false → p ≡ loose.Unary
tight_unary loose.Unary h = refl
tight_unary loose.Binary h = absurd (false≢true (sym h))
tight_unary loose.Keyword h = absurd (false≢true (sym h))

-- an expression in parentheses
grouped : {t : TreeOf Text} → Reads ExpressionRead t → (w : World) (n k : ℕ) (i : Input) (h : Notes) (s : Text) → n + height t + 1 ≤ 400 → Here w n i h (40 ∷ ((expression_text k t ++ 41 ∷ []) ++ s)) → UnaryRead w n i h t s
grouped {t} r w n k i h s le a =
    let x = step (n + 1) (40 ∷ []) (expression_text k t ++ 41 ∷ s) (open_word (expression_text k t ++ 41 ∷ s)) (counts_open n Group (omega arith)) (text_as _ _ (ap (λ y. 40 ∷ y) (append_assoc (expression_text k t) (41 ∷ []) s)) a) in
    let y = r w (n + 1) k (next i) h (41 ∷ s) refl (omega arith) (held_as x.held x.fresh.here) in
    let z = step n (41 ∷ []) s (close_word s) (counts_close n GroupEnd) (held_as y.held y.fresh.here) in
    record { first = Alone y.tree; middle = next y.stop; last = Alone y.tree; stop = next y.stop; operand = Grouped x.kind y.expression z.kind; unaries = NoUnaries tt; plain = y.plain; value = λ v. tt; held = z.held; fresh = z.fresh }

-- an operand of a unary message, or the argument of a binary one
pub operand_unary : {t : TreeOf Text} → CanRead t → NoReturn t → (w : World) (n k : ℕ) (i : Input) (h : Notes) (s : Text) → ends s ≡ true → n + height t + 1 ≤ 400 → Here w n i h (operand_text loose.Unary (precedence_of t) (expression_text k t) ++ s) → UnaryRead w n i h t s
operand_unary {t} can kept w n k i h s e le a = go (is_looser (precedence_of t) loose.Unary) refl a
  where
    go : (b : Bool) → is_looser (precedence_of t) loose.Unary ≡ b → Here w n i h ((if b then codes "(" ++ expression_text k t ++ codes ")" else expression_text k t) ++ s) → UnaryRead w n i h t s
    go true f a = grouped (can.expression (loose_value t loose.Unary f)) w n k i h s le a
    go false f a = can.unary (tight_unary (precedence_of t) f) kept w n k i h s e (omega arith) a

-- an operand of a binary or keyword message, or the argument of a keyword
pub operand_binary : {t : TreeOf Text} → CanRead t → NoReturn t → (w : World) (n k : ℕ) (i : Input) (h : Notes) (s : Text) → ends s ≡ true → n + height t + 1 ≤ 400 → Here w n i h (operand_text loose.Binary (precedence_of t) (expression_text k t) ++ s) → BinaryRead w n i h t s
operand_binary {t} can kept w n k i h s e le a = go (is_looser (precedence_of t) loose.Binary) refl a
  where
    go : (b : Bool) → is_looser (precedence_of t) loose.Binary ≡ b → Here w n i h ((if b then codes "(" ++ expression_text k t ++ codes ")" else expression_text k t) ++ s) → BinaryRead w n i h t s
    go true f a = to_binary (grouped (can.expression (loose_value t loose.Binary f)) w n k i h s le a)
    go false f a = can.binary f kept w n k i h s e (omega arith) a

-- one more message, without places
pub sent_plain : (f e : ℕ) (c : Chain) (s : Text) (xs : SpannedTrees) → plain_tree (whole (sent f e c s xs)) ≡ send (plain_tree (whole c)) s (plain_trees xs)
sent_plain f e (Waiting g h n) s xs = refl
sent_plain f e (Alone t) s xs = refl
sent_plain f e (Told g h r t ys) s xs = refl

-- a message makes a whole
pub sent_whole : (f e : ℕ) (c : Chain) (s : Text) (xs : SpannedTrees) → IsWhole (sent f e c s xs)
sent_whole f e (Waiting g h n) s xs = tt
sent_whole f e (Alone t) s xs = tt
sent_whole f e (Told g h r t ys) s xs = tt

-- a message to a whole can be the first of a cascade
pub sent_told : (f e : ℕ) (c : Chain) (s : Text) (xs : SpannedTrees) → IsWhole c → sent f e c s xs ≡ Told f e (whole c) s xs
sent_told f e (Waiting g h n) s xs v = absurd v
sent_told f e (Alone t) s xs v = refl
sent_told f e (Told g h r t ys) s xs v = refl

-- one more unary message
pub unaries_more : {f : ℕ} {i j : Input} {r u : Chain} {c : NameKind} {n : Text} → Unaries Any f r i u j → kind_of j ≡ Name c n → Unaries Any f r i (sent f (next j).last u n NoTrees) (next j)
unaries_more (OneUnary e d) k = OneUnary e (unaries_more d k)
unaries_more (AnyUnary e d) k = AnyUnary e (unaries_more d k)
unaries_more (NoUnaries n) k = OneUnary k (NoUnaries tt)

-- one more binary message
pub binaries_more : {f : ℕ} {i j m : Input} {r u : Chain} {c : BinaryKind} {s : Text} {x : SpannedTree} → Binaries Any f r i u j → kind_of j ≡ Binary c s → Argument Any (next j) x m → Binaries Any f r i (sent f m.last u s (one_tree x)) m
binaries_more (OneBinary e y d) k x = OneBinary e y (binaries_more d k x)
binaries_more (NoBinaries n) k x = OneBinary k x (NoBinaries tt)

-- the argument of a binary message
pub record ArgumentRead (w : World) (n : ℕ) (i : Input) (h : Notes) (t : TreeOf Text) (s : Text) : Type 0 where
  pub tree : SpannedTree
  pub stop : Input
  pub argument : Argument Any i tree stop
  pub plain : plain_tree tree ≡ t
  pub held : stop.held ≡ h
  pub fresh : Fresh w n stop s

-- an operand with unary messages is such an argument
pub as_argument : {w : World} {n : ℕ} {i : Input} {h : Notes} {t : TreeOf Text} {s : Text} → IsValue t → UnaryRead w n i h t s → ArgumentRead w n i h t s
as_argument v r = record { tree = whole r.last; stop = r.stop; argument = BinaryArgument r.operand r.unaries (r.value v); plain = r.plain; held = r.held; fresh = r.fresh }

-- the argument of a keyword
pub record KeywordArgumentRead (w : World) (n : ℕ) (i : Input) (h : Notes) (t : TreeOf Text) (s : Text) : Type 0 where
  pub tree : SpannedTree
  pub stop : Input
  pub argument : KeywordArgument Any i tree stop
  pub plain : plain_tree tree ≡ t
  pub held : stop.held ≡ h
  pub fresh : Fresh w n stop s

-- an operand with unary and binary messages is such an argument
pub as_keyword_argument : {w : World} {n : ℕ} {i : Input} {h : Notes} {t : TreeOf Text} {s : Text} → IsValue t → BinaryRead w n i h t s → KeywordArgumentRead w n i h t s
as_keyword_argument v r = record { tree = whole r.last; stop = r.stop; argument = ArgumentOfKeyword r.operand r.unaries r.binaries (r.value v); plain = r.plain; held = r.held; fresh = r.fresh }
