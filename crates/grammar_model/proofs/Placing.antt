-- The trees that the grammar spells of tokens in order are well placed.
use Rattle.std.proofs.Common.{◌≡◌, ℕ, suc, ◌<◌, ◌≤◌, arith, List, [], ◌∷◌, refl, sym, subst, inl, inr, le_refl}
use Rattle.tree_model.specs.Tree.{Notes, LiteralOf, LiteralsOf}
use Rattle.grammar_model.specs.Terminal.{Text, Name, Keyword, Binary, Numeral, Constant, Opens, Closes, Assignment, Colon, Semicolon, Period, Caret, Ordinary, Super, Sign, Bar, Group, BlockStart, BraceStart, ArrayStart, BytesStart, GroupEnd, BlockEnd, BraceEnd, Terminal, OperandMeta, AnyName, StatementMeta, AnyExpression, MessageMeta}
use Rattle.grammar_model.specs.Input.{Lexeme, lex, Input, kind_of, from_of, next, clear}
use Rattle.grammar_model.specs.Spanned.{Declared, SpannedTree, Var, Literal, Send, Cascade, Assign, Block, Brace, Return, SpannedTrees, NoTrees, MoreTrees, one_tree, SpannedMessages, MoreMessages, SpannedStatements}
use Rattle.grammar_model.specs.Spans.{begin_of, end_of, spanned_append, spanned_arguments, spanned_statements, spanned_children}
use Rattle.grammar_model.specs.Chain.{Chain, Waiting, Alone, Told, whole, sent}
use Rattle.grammar_model.specs.Ahead.{Longest, NoSemicolon}
use Rattle.grammar_model.specs.Literals.{KeywordRow, LastKeyword, JoinedKeyword, ByteElements, OneByte, NoBytes, LiteralAt, Unsigned, Negative, Fixed, Array, ByteArray, Element, LiteralElement, InnerArray, InnerBytes, NameElement, KeywordElement, BinaryElement, Elements, OneElement, NoElements}
use Rattle.grammar_model.specs.Grammar.{Periods, OnePeriod, NoPeriods, Names, OneName, NoNames, Parameters, OneParameter, NoParameters, Temporaries, Declares, DeclaresNone, Expression, Assigned, Simple, Operand, Variable, SuperName, LiteralOperand, Grouped, BlockOperand, BraceOperand, Unaries, OneUnary, NoUnaries, Binaries, OneBinary, NoBinaries, Keywords, OneKeywords, NoKeywords, Parts, LastPart, FurtherPart, Argument, BinaryArgument, KeywordArgument, ArgumentOfKeyword, Cascaded, NoCascade, OneCascade, Messages, OneMessage, LastMessage, Message, UnaryMessage, BinaryMessage, KeywordMessage, Items, NoItems, OneItem, FurtherItems, NextItem, LastItem, BlockBody, WithoutParameters, ParametersAlone, WithParameters, Sequence, Sequenced, Statements, BlankPeriod, NoMore, Returned, OneStatement, After, Ended, Unended, Finish, EndedReturn, UnendedReturn, MetaOperand, AnyUnary, AnyUnaryMessage, AnyStatement, AnyMessage, WholeMessage, AnyKeywords, AnyKeywordMessage}
use Rattle.grammar_model.proofs.Reading.{IsReal}
use Rattle.grammar_model.proofs.Spans.{AreBetween, AreNarrower, IsPlaced, Placed, IsOpened, AllPlaced, NonePlaced, MorePlaced, placed_some}

-- tokens in order from a place on, each but the end with a byte
abbrev pub AreSorted : ℕ → List Lexeme → Type 0
AreSorted at [] = Unit {0}
AreSorted at (lex c f e k ∷ ts) = (at ≤ f) × (f ≤ e) × (IsReal k → f < e) × AreSorted e ts

-- the tokens that are left are in order
abbrev pub IsSorted : Input → Type 0
IsSorted i = AreSorted i.last i.rest

-- a token is passed
pub record Passed (i : Input) : Type 0 where
  pub before : i.last ≤ from_of i
  pub some : from_of i < (next i).last
  pub sorted : IsSorted (next i)

-- the first token is passed
passed_first : (h : Notes) (l : ℕ) (ts : List Lexeme) (k : Terminal) → let i : Input = record { held = h; last = l; rest = ts } in kind_of i ≡ k → IsReal k → AreSorted l ts → Passed i
passed_first h l [] k e r s = absurd (subst IsReal (sym e) r)
passed_first h l (lex c f b m ∷ ts) k e r s = record { before = s.0; some = s.2 (subst IsReal (sym e) r); sorted = s.3 }

-- any token but the end
pub passed : (i : Input) (k : Terminal) → kind_of i ≡ k → IsReal k → IsSorted i → Passed i
passed i k e r s = passed_first i.held i.last i.rest k e r s

-- tokens are passed, one at least
record Over (i j : Input) : Type 0 where
  before : i.last ≤ from_of i
  some : from_of i < j.last
  sorted : IsSorted j

-- tokens are passed, or none
pub record Moved (i j : Input) : Type 0 where
  pub onward : i.last ≤ j.last
  pub sorted : IsSorted j

-- one token is passed
one_over : (i : Input) (k : Terminal) → kind_of i ≡ k → IsReal k → IsSorted i → Over i (next i)
one_over i k e r s = let p = passed i k e r s in record { before = p.before; some = p.some; sorted = p.sorted }

-- more tokens behind one
then_moved : {i j : Input} → Passed i → Moved (next i) j → Over i j
then_moved p m = record { before = p.before; some = omega (arith, p.some, m.onward); sorted = m.sorted }

-- one at least is one or none
over_moved : {i j : Input} → Over i j → Moved i j
over_moved o = record { onward = omega (arith, o.before, o.some); sorted = o.sorted }

-- and more behind them
moved_over : {i m j : Input} → Over i m → Moved m j → Over i j
moved_over o m = record { before = o.before; some = omega (arith, o.some, m.onward); sorted = m.sorted }

-- both in a row
pub moved_both : {i m j : Input} → Moved i m → Moved m j → Moved i j
moved_both a b = record { onward = omega (arith, a.onward, b.onward); sorted = b.sorted }

-- a closing mark behind what was passed
pub and_closing : {i m : Input} (k : Terminal) → Moved i m → kind_of m ≡ k → IsReal k → Moved i (next m)
and_closing {i} {m} k a e r = let p = passed m k e r a.sorted in record { onward = omega (arith, a.onward, p.before, p.some); sorted = p.sorted }

-- the numerals of a byte array, passed
moves_ByteElements : {i j : Input} {xs : LiteralsOf Text} → ByteElements Longest i xs j → IsSorted i → Moved i j
moves_ByteElements {i} (OneByte {c} {t} e h d) s = let p = passed i (Numeral c t) e tt s in over_moved (then_moved p (moves_ByteElements d p.sorted))
moves_ByteElements (NoBytes n) s = record { onward = le_refl _; sorted = s }

-- a row of keywords, passed
moves_KeywordRow : {i j : Input} {k : Text} → KeywordRow i k j → IsSorted i → Over i j
moves_KeywordRow {i} (LastKeyword {c} {k} e q n) s = one_over i (Keyword c k) e tt s
moves_KeywordRow {i} (JoinedKeyword {c} {k} e q g d) s = let p = passed i (Keyword c k) e tt s in then_moved p (over_moved (moves_KeywordRow d p.sorted))

mutual
  -- a literal, passed
  moves_LiteralAt : {i j : Input} {l : LiteralOf Text} → LiteralAt Longest i l j → IsSorted i → Over i j
  moves_LiteralAt {i} (Unsigned {c} {t} e) s = one_over i (Numeral c t) e tt s
  moves_LiteralAt {i} (Negative {c} {s = sign} {t} e f) s = let p = passed i (Binary Sign sign) e tt s in then_moved p (over_moved (one_over (next i) (Numeral c t) f tt p.sorted))
  moves_LiteralAt {i} (Fixed {l} e) s = one_over i (Constant l) e tt s
  moves_LiteralAt {i} (Array {m} e a c) s = let p = passed i (Opens ArrayStart) e tt s in then_moved p (and_closing (Closes GroupEnd) (moves_Elements a p.sorted) c tt)
  moves_LiteralAt {i} (ByteArray {m} e a c) s = let p = passed i (Opens BytesStart) e tt s in then_moved p (and_closing (Closes BlockEnd) (moves_ByteElements a p.sorted) c tt)

  -- an element of an array, passed
  moves_Element : {i j : Input} {l : LiteralOf Text} → Element Longest i l j → IsSorted i → Over i j
  moves_Element (LiteralElement d) s = moves_LiteralAt d s
  moves_Element {i} (InnerArray e a c) s = let p = passed i (Opens Group) e tt s in then_moved p (and_closing (Closes GroupEnd) (moves_Elements a p.sorted) c tt)
  moves_Element {i} (InnerBytes e a c) s = let p = passed i (Opens BlockStart) e tt s in then_moved p (and_closing (Closes BlockEnd) (moves_ByteElements a p.sorted) c tt)
  moves_Element {i} (NameElement {c} {n} e) s = one_over i (Name c n) e tt s
  moves_Element (KeywordElement d) s = moves_KeywordRow d s
  moves_Element {i} (BinaryElement {c} {s = b} e h) s = one_over i (Binary c b) e tt s

  -- the elements of an array, passed
  moves_Elements : {i j : Input} {xs : LiteralsOf Text} → Elements Longest i xs j → IsSorted i → Moved i j
  moves_Elements (OneElement d r) s = let o = moves_Element d s in over_moved (moved_over o (moves_Elements r o.sorted))
  moves_Elements (NoElements n) s = record { onward = le_refl _; sorted = s }

-- periods, passed
moves_Periods : {i j : Input} → Periods Longest i j → IsSorted i → Moved i j
moves_Periods {i} (OnePeriod e d) s = let p = passed i Period e tt s in over_moved (then_moved p (moves_Periods d p.sorted))
moves_Periods (NoPeriods n) s = record { onward = le_refl _; sorted = s }

-- declared names, passed
pub moves_Names : {i j : Input} {ds : List Declared} → Names Longest i ds j → IsSorted i → Moved i j
moves_Names {i} (OneName {c} {n} e d) s = let p = passed i (Name c n) e tt s in over_moved (then_moved p (moves_Names d p.sorted))
moves_Names (NoNames n) s = record { onward = le_refl _; sorted = s }

-- the parameters of a block, passed
moves_Parameters : {i j : Input} {ds : List Declared} → Parameters Longest i ds j → IsSorted i → Moved i j
moves_Parameters {i} (OneParameter {c} {n} e f d) s =
    let p = passed i Colon e tt s in
    let q = passed (next i) (Name c n) f tt p.sorted in
    over_moved (then_moved p (over_moved (then_moved q (moves_Parameters d q.sorted))))
moves_Parameters (NoParameters n) s = record { onward = le_refl _; sorted = s }

-- temporaries or none, passed
moves_Temporaries : {i j : Input} {ds : List Declared} → Temporaries Longest i ds j → IsSorted i → Moved i j
moves_Temporaries {i} (Declares {s = a} {t = b} e d f) s = let p = passed i (Binary Bar a) e tt s in over_moved (then_moved p (and_closing (Binary Bar b) (moves_Names d p.sorted) f tt))
moves_Temporaries (DeclaresNone n) s = record { onward = le_refl _; sorted = s }

-- what stands behind a return, passed
moves_Finish : {i j : Input} {c : Notes} → Finish Longest i c j → IsSorted i → Moved i j
moves_Finish {i} (EndedReturn e d) s = let p = passed i Period e tt s in let m = moves_Periods d p.sorted in record { onward = omega (arith, p.before, p.some, m.onward); sorted = m.sorted }
moves_Finish (UnendedReturn n) s = record { onward = le_refl _; sorted = s }

-- trees in order also stand between wider places
pub wider : (ts : SpannedTrees) (low low' high : ℕ) → low' ≤ low → AreBetween low high ts → AreBetween low' high ts
wider NoTrees low low' high l b = omega arith
wider (MoreTrees t ts) low low' high l b = (omega (arith, b.0), b.1, b.2)

-- trees in order also end below a higher place
pub higher : (ts : SpannedTrees) (low high high' : ℕ) → high ≤ high' → AreBetween low high ts → AreBetween low high' ts
higher NoTrees low high high' l b = omega arith
higher (MoreTrees t ts) low high high' l b = (b.0, b.1, higher ts (end_of t) high high' l b.2)

-- trees in order stand between places in order
between_end : (ts : SpannedTrees) (low high : ℕ) → AreBetween low high ts → low ≤ high
between_end NoTrees low high b = b
between_end (MoreTrees t ts) low high b = omega (arith, between_end ts (end_of t) high b.2, b.0, b.1)

-- trees behind some place begin behind it
later : (ts : SpannedTrees) (first low high top : ℕ) → first < low → AreBetween low high ts → AreNarrower first top ts
later NoTrees first low high top l b = tt
later (MoreTrees t ts) first low high top l b = (inl (omega (arith, b.0)), later ts first (end_of t) high top (omega (arith, b.0, b.1)) b.2)

-- joined trees in order
between_append : (ts us : SpannedTrees) (low middle high : ℕ) → AreBetween low middle ts → AreBetween middle high us → AreBetween low high (spanned_append ts us)
between_append NoTrees us low middle high a b = wider us middle low high a b
between_append (MoreTrees t ts) us low middle high a b = (a.0, a.1, between_append ts us (end_of t) middle high a.2 b)

-- joined trees that are well placed
placed_append : (ts us : SpannedTrees) → AllPlaced ts → AllPlaced us → AllPlaced (spanned_append ts us)
placed_append NoTrees us a b = b
placed_append (MoreTrees t ts) us (MorePlaced p a) b = MorePlaced p (placed_append ts us a b)

-- a send is well placed where its receiver is, and its arguments behind it
placed_send : (f e : ℕ) (r : SpannedTree) (s : Text) (xs : SpannedTrees) → f ≤ begin_of r → IsPlaced r → end_of r < e → AreBetween (end_of r) e xs → AllPlaced xs → IsPlaced (Send f e r s xs)
placed_send f e r s xs l p h b a =
    let some = placed_some p in
    Placed (omega (arith, some)) (l, some, b) (inr h, later xs f (end_of r) e e (omega (arith, some)) b) (MorePlaced p a) tt

-- so is a cascade
placed_cascade : (f e : ℕ) (r : SpannedTree) (ms : SpannedMessages) → f ≤ begin_of r → IsPlaced r → end_of r < e → AreBetween (end_of r) e (spanned_arguments ms) → AllPlaced (spanned_arguments ms) → IsPlaced (Cascade f e r ms)
placed_cascade f e r ms l p h b a =
    let some = placed_some p in
    Placed (omega (arith, some)) (l, some, b) (inr h, later (spanned_arguments ms) f (end_of r) e e (omega (arith, some)) b) (MorePlaced p a) tt

-- what is known of a tree that is spelled
record Stands (i : Input) (t : SpannedTree) (j : Input) : Type 0 where
  before : i.last ≤ from_of i
  from : from_of i ≤ begin_of t
  some : begin_of t < end_of t
  to : end_of t ≤ j.last
  placed : IsPlaced t
  sorted : IsSorted j

-- and of a receiver with its messages
record ChainStands (f : ℕ) (c : Chain) (j : Input) : Type 0 where
  from : f ≤ begin_of (whole c)
  some : begin_of (whole c) < end_of (whole c)
  to : end_of (whole c) ≤ j.last
  placed : IsPlaced (whole c)
  sorted : IsSorted j

-- and of the arguments of one message
record RowStands (i : Input) (ts : SpannedTrees) (j : Input) : Type 0 where
  before : i.last ≤ from_of i
  some : from_of i < j.last
  between : AreBetween (from_of i) j.last ts
  placed : AllPlaced ts
  sorted : IsSorted j

-- and of further trees
pub record TreesStand (i : Input) (ts : SpannedTrees) (j : Input) : Type 0 where
  pub between : AreBetween i.last j.last ts
  pub placed : AllPlaced ts
  pub sorted : IsSorted j

-- no trees
pub none_stand : {i j : Input} → Moved i j → TreesStand i NoTrees j
none_stand m = record { between = m.onward; placed = NonePlaced; sorted = m.sorted }

-- behind further tokens
pub behind_moved : {i m j : Input} {ts : SpannedTrees} → Moved i m → TreesStand m ts j → TreesStand i ts j
behind_moved {i} {m} {j} {ts} a r = record { between = wider ts m.last i.last j.last a.onward r.between; placed = r.placed; sorted = r.sorted }

-- one tree and further ones
more_stand : {i m j : Input} {t : SpannedTree} {ts : SpannedTrees} → Stands i t m → TreesStand m ts j → TreesStand i (MoreTrees t ts) j
more_stand {i} {m} {j} {t} {ts} a r = record { between = (omega (arith, a.before, a.from), a.some, wider ts m.last (end_of t) j.last a.to r.between); placed = MorePlaced a.placed r.placed; sorted = r.sorted }

-- a receiver with one more message
chain_sent : (f : ℕ) (r : Chain) (s : Text) (xs : SpannedTrees) (j : Input) → IsPlaced (Send f j.last (whole r) s xs) → IsSorted j → ChainStands f (sent f j.last r s xs) j
chain_sent f (Waiting a b n) s xs j p q = record { from = le_refl _; some = placed_some p; to = le_refl _; placed = p; sorted = q }
chain_sent f (Alone t) s xs j p q = record { from = le_refl _; some = placed_some p; to = le_refl _; placed = p; sorted = q }
chain_sent f (Told a b t m ys) s xs j p q = record { from = le_refl _; some = placed_some p; to = le_refl _; placed = p; sorted = q }

-- a message that is sent
tells : {f : ℕ} {r : Chain} (s : Text) {xs : SpannedTrees} {i j : Input} → ChainStands f r i → RowStands i xs j → ChainStands f (sent f j.last r s xs) j
tells {f} {r} s {xs} {i} {j} c m =
    chain_sent f r s xs j (placed_send f j.last (whole r) s xs c.from c.placed (omega (arith, c.to, m.before, m.some)) (wider xs (from_of i) (end_of (whole r)) j.last (omega (arith, c.to, m.before)) m.between) m.placed) m.sorted

-- a message without arguments, and with one
unary_row : {i : Input} (k : Terminal) → kind_of i ≡ k → IsReal k → IsSorted i → RowStands i NoTrees (next i)
unary_row {i} k e r s = let p = passed i k e r s in record { before = p.before; some = p.some; between = omega (arith, p.some); placed = NonePlaced; sorted = p.sorted }

-- a message with one argument
binary_row : {i j : Input} {x : SpannedTree} → Passed i → Stands (next i) x j → RowStands i (one_tree x) j
binary_row p x = record { before = p.before; some = omega (arith, p.some, x.before, x.from, x.some, x.to); between = (omega (arith, p.some, x.before, x.from), x.some, x.to); placed = MorePlaced x.placed NonePlaced; sorted = x.sorted }

-- a keyword and its argument before others
further_row : {i m j : Input} {x : SpannedTree} {xs : SpannedTrees} → Passed i → Stands (next i) x m → RowStands m xs j → RowStands i (MoreTrees x xs) j
further_row {i} {m} {j} {x} {xs} p a r = record {
  before = p.before;
  some = omega (arith, p.some, a.before, a.from, a.some, a.to, r.before, r.some);
  between = (omega (arith, p.some, a.before, a.from), a.some, wider xs (from_of m) (end_of x) j.last (omega (arith, a.to, r.before)) r.between);
  placed = MorePlaced a.placed r.placed;
  sorted = r.sorted;
}

-- a tree between brackets, or behind a mark, is narrower than all
placed_one : (t whole_tree : SpannedTree) → spanned_children whole_tree ≡ one_tree t → begin_of whole_tree < begin_of t → IsPlaced t → end_of t ≤ end_of whole_tree → IsOpened whole_tree → IsPlaced whole_tree
placed_one t w e l p h o =
    let some = placed_some p in
    Placed (omega (arith, some)) (subst (AreBetween (begin_of w) (end_of w)) (sym e) (omega (arith, l), some, h)) (subst (AreNarrower (begin_of w) (end_of w)) (sym e) (inl l, tt)) (subst AllPlaced (sym e) (MorePlaced p NonePlaced)) o

-- a block or a brace array
placed_all : (w : SpannedTree) (low high : ℕ) → begin_of w < low → high ≤ end_of w → AreBetween low high (spanned_children w) → AllPlaced (spanned_children w) → IsOpened w → IsPlaced w
placed_all w low high l h b a o =
    let c = higher (spanned_children w) low high (end_of w) h b in
    Placed (omega (arith, between_end (spanned_children w) low high b)) (wider (spanned_children w) low (begin_of w) (end_of w) (omega arith) c) (later (spanned_children w) (begin_of w) low (end_of w) (end_of w) l c) a o

-- a leaf
placed_leaf : (w : SpannedTree) → spanned_children w ≡ NoTrees → begin_of w < end_of w → IsOpened w → IsPlaced w
placed_leaf w e l o = Placed l (subst (AreBetween (begin_of w) (end_of w)) (sym e) (omega arith)) (subst (AreNarrower (begin_of w) (end_of w)) (sym e) tt) (subst AllPlaced (sym e) NonePlaced) o

-- an operand, with the place before it
record OperandStands (i : Input) (r : Chain) (j : Input) : Type 0 where
  before : i.last ≤ from_of i
  chain : ChainStands (from_of i) r j

-- an operand without nodes below it
leaf_stands : {i j : Input} (r : Chain) → begin_of (whole r) ≡ from_of i → end_of (whole r) ≡ j.last → spanned_children (whole r) ≡ NoTrees → IsOpened (whole r) → Over i j → OperandStands i r j
leaf_stands {i} {j} r f e c q o =
    let some : begin_of (whole r) < end_of (whole r) = omega (arith, o.some, f, e) in
    record { before = o.before; chain = record { from = omega (arith, f); some = some; to = omega (arith, e); placed = placed_leaf (whole r) c some q; sorted = o.sorted } }

-- what stands in parentheses
group_stands : {i m : Input} {t : SpannedTree} → Passed i → Stands (next i) t m → kind_of m ≡ Closes GroupEnd → OperandStands i (Alone t) (next m)
group_stands {i} {m} p t c =
    let q = passed m (Closes GroupEnd) c tt t.sorted in
    record { before = p.before; chain = record { from = omega (arith, p.some, t.before, t.from); some = t.some; to = omega (arith, t.to, q.before, q.some); placed = t.placed; sorted = q.sorted } }

-- what stands in brackets or braces
bracket_stands : {i m : Input} {ts : SpannedTrees} (k : Terminal) (w : SpannedTree) → spanned_children w ≡ ts → begin_of w ≡ from_of i → end_of w ≡ (next m).last → Passed i → TreesStand (next i) ts m → kind_of m ≡ k → IsReal k → ((high : ℕ) → AreBetween (next i).last high ts → high ≤ end_of w → IsOpened w) → OperandStands i (Alone w) (next m)
bracket_stands {i} {m} {ts} k w e f g p r c real opened =
    let q = passed m k c real r.sorted in
    let placed : IsPlaced w = placed_all w (next i).last m.last (omega (arith, p.some, f)) (omega (arith, q.before, q.some, g)) (subst (AreBetween (next i).last m.last) (sym e) r.between) (subst AllPlaced (sym e) r.placed) (opened m.last r.between (omega (arith, q.before, q.some, g))) in
    record { before = p.before; chain = record { from = omega (arith, f); some = placed_some placed; to = omega (arith, g); placed = placed; sorted = q.sorted } }

-- a tree with all its messages
record WholeStands (f : ℕ) (t : SpannedTree) (j : Input) : Type 0 where
  from : f ≤ begin_of t
  some : begin_of t < end_of t
  to : end_of t ≤ j.last
  placed : IsPlaced t
  sorted : IsSorted j

-- an operand with all that follows it
stands_chain : {i k j : Input} {r : Chain} {t : SpannedTree} → OperandStands i r k → WholeStands (from_of i) t j → Stands i t j
stands_chain o w = record { before = o.before; from = w.from; some = w.some; to = w.to; placed = w.placed; sorted = w.sorted }

-- an operand with its messages
of_chain : {i k j : Input} {r u : Chain} → OperandStands i r k → ChainStands (from_of i) u j → Stands i (whole u) j
of_chain o c = record { before = o.before; from = c.from; some = c.some; to = c.to; placed = c.placed; sorted = c.sorted }

-- what stands in a block reads on behind it with other comments
cleared : {h : Notes} {l : ℕ} {ts : List Lexeme} {us : SpannedTrees} {j : Input} → (let i : Input = record { held = []; last = l; rest = ts } in TreesStand i us j) → (let i : Input = record { held = h; last = l; rest = ts } in TreesStand i us j)
cleared r = record { between = r.between; placed = r.placed; sorted = r.sorted }

-- behind a period, whatever is held
behind_period : {i j : Input} {ts : SpannedTrees} → Passed i → TreesStand (clear (next i)) ts j → TreesStand i ts j
behind_period {i} {j} {ts} p r = record { between = wider ts (next i).last i.last j.last (omega (arith, p.before, p.some)) r.between; placed = r.placed; sorted = r.sorted }

-- a message of a cascade and further ones
messages_stand : {i m j : Input} {xs us : SpannedTrees} → Passed i → RowStands (next i) xs m → TreesStand m us j → TreesStand i (spanned_append xs us) j
messages_stand {i} {m} {j} {xs} {us} p a r = record {
  between = between_append xs us i.last m.last j.last (wider xs (from_of (next i)) i.last m.last (omega (arith, p.before, p.some, a.before)) a.between) r.between;
  placed = placed_append xs us a.placed r.placed;
  sorted = r.sorted;
}

-- trees behind one token at least
record SomeStand (i : Input) (ts : SpannedTrees) (j : Input) : Type 0 where
  trees : TreesStand i ts j
  onward : i.last < j.last

-- a cascade behind a message
cascade_placed : {i j : Input} (g h : ℕ) (r : SpannedTree) (s : Text) (xs : SpannedTrees) (ms : SpannedMessages) → IsPlaced (Send g h r s xs) → h ≤ i.last → i.last < j.last → TreesStand i (spanned_arguments ms) j → IsPlaced (Cascade g j.last r (MoreMessages s xs ms))
cascade_placed {i} {j} g h r s xs ms (Placed some b n (MorePlaced p a) o) to more m =
    placed_cascade g j.last r (MoreMessages s xs ms) b.0 p (omega (arith, between_end xs (end_of r) h b.2)) (between_append xs (spanned_arguments ms) (end_of r) i.last j.last (higher xs (end_of r) h i.last to b.2) m.between) (placed_append xs (spanned_arguments ms) a m.placed)

-- any message is well placed
stands_AnyMessage : {i j : Input} {k : Text} {xs : SpannedTrees} → AnyMessage Longest i k xs j → IsSorted i → RowStands i xs j
stands_AnyMessage {i} (WholeMessage {k} {n} e f h) s =
    let p = passed i (MessageMeta k) e tt s in
    let q = passed (next i) (OperandMeta AnyExpression n) f tt p.sorted in
    let x : Stands (next i) (Var (from_of (next i)) (next (next i)).last n) (next (next i)) = record { before = q.before; from = le_refl _; some = q.some; to = le_refl _; placed = placed_leaf (Var (from_of (next i)) (next (next i)).last n) refl q.some tt; sorted = q.sorted } in
    binary_row p x

mutual
  -- an expression is well placed
  stands_Expression : {i j : Input} {t : SpannedTree} → Expression Longest i t j → IsSorted i → Stands i t j
  stands_Expression {i} {j} (Assigned {c} {n} {v} e f d) s =
      let p = passed i (Name c n) e tt s in
      let q = passed (next i) Assignment f tt p.sorted in
      let x = stands_Expression d q.sorted in
      let long : from_of i < j.last = omega (arith, p.some, q.before, q.some, x.before, x.from, x.some, x.to) in
      record { before = p.before; from = le_refl _; some = long; to = le_refl _; placed = placed_one v (Assign (from_of i) j.last n v) refl (omega (arith, p.some, q.before, q.some, x.before, x.from)) x.placed x.to tt; sorted = x.sorted }
  stands_Expression {i} (Simple plain o u b k c) s =
      let a = stands_Operand o s in
      stands_chain a (stands_Cascaded c (stands_Keywords k (stands_Binaries b (stands_Unaries u a.chain))))

  -- an operand, well placed
  stands_Operand : {i j : Input} {r : Chain} → Operand Longest i r j → IsSorted i → OperandStands i r j
  stands_Operand {i} (Variable {n} e) s = leaf_stands (Alone (Var (from_of i) (next i).last n)) refl refl refl tt (one_over i (Name Ordinary n) e tt s)
  stands_Operand {i} (SuperName {n} e) s = leaf_stands (Waiting (from_of i) (next i).last n) refl refl refl tt (one_over i (Name Super n) e tt s)
  stands_Operand {i} (MetaOperand {m} {n} e) s = leaf_stands (Alone (Var (from_of i) (next i).last n)) refl refl refl tt (one_over i (OperandMeta m n) e tt s)
  stands_Operand {i} {j} (LiteralOperand {l} d) s = leaf_stands (Alone (Literal (from_of i) j.last l)) refl refl refl tt (moves_LiteralAt d s)
  stands_Operand {i} (Grouped e d c) s = let p = passed i (Opens Group) e tt s in group_stands p (stands_Expression d p.sorted) c
  stands_Operand {i} (BlockOperand {m} {ps} {ds} {ss} e b c) s =
      let p = passed i (Opens BlockStart) e tt s in
      let r = bracket_stands (Closes BlockEnd) (Block (from_of i) (next m).last ps ds ss (next m).held) refl refl refl p (cleared (stands_BlockBody b p.sorted)) c tt (λ high between h. higher (spanned_statements ss) (suc (from_of i)) high (next m).last h (wider (spanned_statements ss) (next i).last (suc (from_of i)) high (omega (arith, p.some)) between)) in
      record { before = r.before; chain = record { from = r.chain.from; some = r.chain.some; to = r.chain.to; placed = r.chain.placed; sorted = r.chain.sorted } }
  stands_Operand {i} (BraceOperand {m} {ts} e d c) s =
      let p = passed i (Opens BraceStart) e tt s in
      bracket_stands (Closes BraceEnd) (Brace (from_of i) (next m).last ts) refl refl refl p (stands_Items d p.sorted) c tt (λ high between h. tt)

  -- unary messages, well placed
  stands_Unaries : {f : ℕ} {i j : Input} {r u : Chain} → Unaries Longest f r i u j → ChainStands f r i → ChainStands f u j
  stands_Unaries {i} (OneUnary {c} {n} e d) a = stands_Unaries d (tells n a (unary_row (Name c n) e tt a.sorted))
  stands_Unaries {i} (AnyUnary {n} e d) a = stands_Unaries d (tells n a (unary_row (OperandMeta AnyName n) e tt a.sorted))
  stands_Unaries (NoUnaries h) a = a

  -- binary messages, well placed
  stands_Binaries : {f : ℕ} {i j : Input} {r u : Chain} → Binaries Longest f r i u j → ChainStands f r i → ChainStands f u j
  stands_Binaries {i} (OneBinary {c} {s = b} e x d) a = let p = passed i (Binary c b) e tt a.sorted in stands_Binaries d (tells b a (binary_row p (stands_Argument x p.sorted)))
  stands_Binaries (NoBinaries h) a = a

  -- a keyword message or none, well placed
  stands_Keywords : {f : ℕ} {i j : Input} {r u : Chain} → Keywords Longest f r i u j → ChainStands f r i → ChainStands f u j
  stands_Keywords (OneKeywords {s = k} d) a = tells k a (stands_Parts d a.sorted)
  stands_Keywords (AnyKeywords {s = k} d) a = tells k a (stands_AnyMessage d a.sorted)
  stands_Keywords (NoKeywords h) a = a

  -- keywords with their arguments, well placed
  stands_Parts : {i j : Input} {k : Text} {xs : SpannedTrees} → Parts Longest i k xs j → IsSorted i → RowStands i xs j
  stands_Parts {i} (LastPart {c} {k} e x h) s = let p = passed i (Keyword c k) e tt s in binary_row p (stands_KeywordArgument x p.sorted)
  stands_Parts {i} (FurtherPart {c} {k} e x d) s = let p = passed i (Keyword c k) e tt s in let a = stands_KeywordArgument x p.sorted in further_row p a (stands_Parts d a.sorted)

  -- the argument of a binary message, well placed
  stands_Argument : {i j : Input} {t : SpannedTree} → Argument Longest i t j → IsSorted i → Stands i t j
  stands_Argument (BinaryArgument o u w) s = let a = stands_Operand o s in of_chain a (stands_Unaries u a.chain)

  -- the argument of a keyword, well placed
  stands_KeywordArgument : {i j : Input} {t : SpannedTree} → KeywordArgument Longest i t j → IsSorted i → Stands i t j
  stands_KeywordArgument (ArgumentOfKeyword o u b w) s = let a = stands_Operand o s in of_chain a (stands_Binaries b (stands_Unaries u a.chain))

  -- a cascade or none, well placed
  stands_Cascaded : {f : ℕ} {r : Chain} {i j : Input} {t : SpannedTree} → Cascaded Longest r i t j → ChainStands f r i → WholeStands f t j
  stands_Cascaded (NoCascade w h) a = record { from = a.from; some = a.some; to = a.to; placed = a.placed; sorted = a.sorted }
  stands_Cascaded {i} {j} (OneCascade {f = g} {e = h} {r} {s = k} {xs} {ms} e d) a =
      let m = stands_some d e a.sorted in
      let p = cascade_placed {i = i} {j = j} g h r k xs ms a.placed a.to m.onward m.trees in
      record { from = a.from; some = placed_some p; to = le_refl _; placed = p; sorted = m.trees.sorted }

  -- the messages of a cascade, well placed
  stands_Messages : {i j : Input} {ms : SpannedMessages} → Messages Longest i ms j → IsSorted i → TreesStand i (spanned_arguments ms) j
  stands_Messages {i} (OneMessage {m} {s = k} {xs} {ms} e x d) s =
      let p = passed i Semicolon e tt s in
      let a = stands_Message x p.sorted in
      messages_stand p a (stands_Messages d a.sorted)
  stands_Messages {i} (LastMessage h) s = record { between = le_refl _; placed = NonePlaced; sorted = s }

  -- messages that are some
  stands_some : {i j : Input} {ms : SpannedMessages} → Messages Longest i ms j → kind_of i ≡ Semicolon → IsSorted i → SomeStand i (spanned_arguments ms) j
  stands_some {i} {j} (OneMessage {xs} {ms} e x d) k s =
      let p = passed i Semicolon e tt s in
      let a = stands_Message x p.sorted in
      let r = stands_Messages d a.sorted in
      record { trees = messages_stand p a r; onward = omega (arith, p.before, p.some, a.before, a.some, between_end (spanned_arguments ms) _ j.last r.between) }
  stands_some {i} (LastMessage h) k s = absurd (subst NoSemicolon k h)

  -- one message of a cascade, well placed
  stands_Message : {i j : Input} {k : Text} {xs : SpannedTrees} → Message Longest i k xs j → IsSorted i → RowStands i xs j
  stands_Message {i} (UnaryMessage {c} {n} e) s = unary_row (Name c n) e tt s
  stands_Message {i} (AnyUnaryMessage {n} e) s = unary_row (OperandMeta AnyName n) e tt s
  stands_Message {i} (BinaryMessage {c} {s = b} e x) s = let p = passed i (Binary c b) e tt s in binary_row p (stands_Argument x p.sorted)
  stands_Message (KeywordMessage d) s = stands_Parts d s
  stands_Message (AnyKeywordMessage d) s = stands_AnyMessage d s

  -- the items of a brace array, well placed
  stands_Items : {i j : Input} {ts : SpannedTrees} → Items Longest i ts j → IsSorted i → TreesStand i ts j
  stands_Items (NoItems h) s = none_stand (record { onward = le_refl _; sorted = s })
  stands_Items (OneItem d r) s = let a = stands_Expression d s in more_stand a (stands_FurtherItems r a.sorted)

  -- what stands behind an item, well placed
  stands_FurtherItems : {i j : Input} {ts : SpannedTrees} → FurtherItems Longest i ts j → IsSorted i → TreesStand i ts j
  stands_FurtherItems {i} (NextItem e d) s = let o = one_over i Period e tt s in behind_moved (over_moved o) (stands_Items d o.sorted)
  stands_FurtherItems (LastItem h) s = none_stand (record { onward = le_refl _; sorted = s })

  -- what stands between the brackets of a block, well placed
  stands_BlockBody : {i j : Input} {ps ds : List Declared} {ss : SpannedStatements} → BlockBody Longest i ps ds ss j → IsSorted i → TreesStand i (spanned_statements ss) j
  stands_BlockBody (WithoutParameters h b) s = stands_Sequence b s
  stands_BlockBody (ParametersAlone e p c) s = none_stand (moves_Parameters p s)
  stands_BlockBody (WithParameters {s = bar} e p c b) s = let m = and_closing (Binary Bar bar) (moves_Parameters p s) c tt in behind_moved m (stands_Sequence b m.sorted)

  -- the statements of a sequence are well placed
  pub stands_Sequence : {i j : Input} {ds : List Declared} {ss : SpannedStatements} → Sequence Longest i ds ss j → IsSorted i → TreesStand i (spanned_statements ss) j
  stands_Sequence (Sequenced d b) s = let m = moves_Temporaries d s in behind_moved m (stands_Statements b m.sorted)

  -- so are statements
  pub stands_Statements : {i j : Input} {ss : SpannedStatements} → Statements Longest i ss j → IsSorted i → TreesStand i (spanned_statements ss) j
  stands_Statements {i} (BlankPeriod e b) s = let o = one_over i Period e tt s in behind_moved (over_moved o) (stands_Statements b o.sorted)
  stands_Statements (NoMore h) s = none_stand (record { onward = le_refl _; sorted = s })
  stands_Statements {i} {j} (Returned {m} {t} e d f) s =
      let p = passed i Caret e tt s in
      let x = stands_Expression d p.sorted in
      let w : IsPlaced (Return (from_of i) m.last t) = placed_one t (Return (from_of i) m.last t) refl (omega (arith, p.some, x.before, x.from)) x.placed x.to tt in
      let r = moves_Finish f x.sorted in
      record { between = (p.before, placed_some w, r.onward); placed = MorePlaced w NonePlaced; sorted = r.sorted }
  stands_Statements {i} (AnyStatement {n} e a) s =
      let p = passed i (StatementMeta n) e tt s in
      let x : Stands i (Var (from_of i) (next i).last n) (next i) = record { before = p.before; from = le_refl _; some = p.some; to = le_refl _; placed = placed_leaf (Var (from_of i) (next i).last n) refl p.some tt; sorted = p.sorted } in
      more_stand x (stands_After a x.sorted)
  stands_Statements (OneStatement d a) s = let x = stands_Expression d s in more_stand x (stands_After a x.sorted)

  -- what stands behind a statement, well placed
  stands_After : {i j : Input} {c : Notes} {ss : SpannedStatements} → After Longest i c ss j → IsSorted i → TreesStand i (spanned_statements ss) j
  stands_After {i} (Ended e b) s = let p = passed i Period e tt s in behind_period p (stands_Statements b p.sorted)
  stands_After (Unended h) s = none_stand (record { onward = le_refl _; sorted = s })
