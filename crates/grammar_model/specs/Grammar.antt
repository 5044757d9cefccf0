-- The grammar of expressions and sequences: from one place on a tree is spelled up to another place.
-- A brace is a token in the second dialect alone, so a text of the first has no brace array.
use Rattle.std.specs.Prelude.{◌≡◌, ℕ, List, [], ◌∷◌, ◌++◌}
use Rattle.tree_model.specs.Tree.{Notes, LiteralOf}
use Rattle.grammar_model.specs.Terminal.{Text, NameKind, KeywordKind, BinaryKind, Name, Keyword, Binary, Opens, Closes, Assignment, Colon, Semicolon, Period, Caret, Ordinary, Super, Bar, Group, BlockStart, BraceStart, GroupEnd, BlockEnd, BraceEnd, OperandMark, OperandMeta, AnyName, AnyExpression, StatementMeta, MessageMeta}
use Rattle.grammar_model.specs.Input.{Input, kind_of, from_of, next, clear, back}
use Rattle.grammar_model.specs.Spanned.{Declared, SpannedTree, Var, Literal, Cascade, Assign, Block, Brace, Return, SpannedTrees, NoTrees, MoreTrees, one_tree, SpannedMessages, NoMessages, MoreMessages, SpannedStatements, NoStatements, MoreStatements}
use Rattle.grammar_model.specs.Chain.{Chain, Waiting, Alone, Told, whole, sent, IsWhole}
use Rattle.grammar_model.specs.Ahead.{Rows, Ends, NoName, NoKey, NoBinary, NoBar, NoSemicolon, NoColon, NoPeriod, NoOperand, NoStatement, NoAssignment, NoUnary}
use Rattle.grammar_model.specs.Literals.{LiteralAt}

-- periods
pub data Periods (a : Rows) : Input → Input → Type 0 where
  OnePeriod : {i j : Input} → kind_of i ≡ Period → Periods a (next i) j → Periods a i j
  NoPeriods : {i : Input} → Ends a (NoPeriod (kind_of i)) → Periods a i i

-- declared names
pub data Names (a : Rows) : Input → List Declared → Input → Type 0 where
  OneName : {i j : Input} {c : NameKind} {n : Text} {ds : List Declared} → kind_of i ≡ Name c n → Names a (next i) ds j → Names a i (record { name = n; from = from_of i } ∷ ds) j
  NoNames : {i : Input} → Ends a (NoName (kind_of i)) → Names a i [] i

-- the parameters of a block, each behind a colon
pub data Parameters (a : Rows) : Input → List Declared → Input → Type 0 where
  OneParameter : {i j : Input} {c : NameKind} {n : Text} {ds : List Declared} → kind_of i ≡ Colon → kind_of (next i) ≡ Name c n → Parameters a (next (next i)) ds j → Parameters a i (record { name = n; from = from_of (next i) } ∷ ds) j
  NoParameters : {i : Input} → Ends a (NoColon (kind_of i)) → Parameters a i [] i

-- temporaries between bars, or nothing
pub data Temporaries (a : Rows) : Input → List Declared → Input → Type 0 where
  Declares : {i j : Input} {s t : Text} {ds : List Declared} → kind_of i ≡ Binary Bar s → Names a (next i) ds j → kind_of j ≡ Binary Bar t → Temporaries a i ds (next j)
  DeclaresNone : {i : Input} → Ends a (NoBar (kind_of i)) → Temporaries a i [] i

mutual
  -- an assignment, or a receiver with its messages and a cascade
  pub data Expression (a : Rows) : Input → SpannedTree → Input → Type 0 where
    Assigned : {i j : Input} {c : NameKind} {n : Text} {v : SpannedTree} → kind_of i ≡ Name c n → kind_of (next i) ≡ Assignment → Expression a (next (next i)) v j → Expression a i (Assign (from_of i) j.last n v) j
    Simple : {i k l m n j : Input} {r u b w : Chain} {t : SpannedTree} → Ends a (NoAssignment (kind_of i) (kind_of (next i))) →
        Operand a i r k → Unaries a (from_of i) r k u l → Binaries a (from_of i) u l b m → Keywords a (from_of i) b m w n → Cascaded a w n t j → Expression a i t j

  -- a primary, or super
  pub data Operand (a : Rows) : Input → Chain → Input → Type 0 where
    Variable : {i : Input} {n : Text} → kind_of i ≡ Name Ordinary n → Operand a i (Alone (Var (from_of i) (next i).last n)) (next i)
    SuperName : {i : Input} {n : Text} → kind_of i ≡ Name Super n → Operand a i (Waiting (from_of i) (next i).last n) (next i)
    MetaOperand : {i : Input} {m : OperandMark} {n : Text} → kind_of i ≡ OperandMeta m n → Operand a i (Alone (Var (from_of i) (next i).last n)) (next i)
    LiteralOperand : {i j : Input} {l : LiteralOf Text} → LiteralAt a i l j → Operand a i (Alone (Literal (from_of i) j.last l)) j
    Grouped : {i m : Input} {t : SpannedTree} → kind_of i ≡ Opens Group → Expression a (next i) t m → kind_of m ≡ Closes GroupEnd → Operand a i (Alone t) (next m)
    -- the comments in a block are its own
    BlockOperand : {i m : Input} {ps ds : List Declared} {ss : SpannedStatements} → kind_of i ≡ Opens BlockStart → BlockBody a (clear (next i)) ps ds ss m → kind_of m ≡ Closes BlockEnd →
        Operand a i (Alone (Block (from_of i) (next m).last ps ds ss (next m).held)) (back (next i) (next m))
    BraceOperand : {i m : Input} {ts : SpannedTrees} → kind_of i ≡ Opens BraceStart → Items a (next i) ts m → kind_of m ≡ Closes BraceEnd → Operand a i (Alone (Brace (from_of i) (next m).last ts)) (next m)

  -- unary messages; the number is where the text of the receiver begins
  pub data Unaries (a : Rows) : ℕ → Chain → Input → Chain → Input → Type 0 where
    OneUnary : {f : ℕ} {i j : Input} {c : NameKind} {n : Text} {r u : Chain} → kind_of i ≡ Name c n → Unaries a f (sent f (next i).last r n NoTrees) (next i) u j → Unaries a f r i u j
    AnyUnary : {f : ℕ} {i j : Input} {n : Text} {r u : Chain} → kind_of i ≡ OperandMeta AnyName n → Unaries a f (sent f (next i).last r n NoTrees) (next i) u j → Unaries a f r i u j
    NoUnaries : {f : ℕ} {i : Input} {r : Chain} → Ends a (NoUnary (kind_of i)) → Unaries a f r i r i

  -- binary messages
  pub data Binaries (a : Rows) : ℕ → Chain → Input → Chain → Input → Type 0 where
    OneBinary : {f : ℕ} {i m j : Input} {c : BinaryKind} {s : Text} {x : SpannedTree} {r u : Chain} → kind_of i ≡ Binary c s → Argument a (next i) x m → Binaries a f (sent f m.last r s (one_tree x)) m u j → Binaries a f r i u j
    NoBinaries : {f : ℕ} {i : Input} {r : Chain} → Ends a (NoBinary (kind_of i)) → Binaries a f r i r i

  -- a keyword message, or none
  pub data Keywords (a : Rows) : ℕ → Chain → Input → Chain → Input → Type 0 where
    OneKeywords : {f : ℕ} {i j : Input} {s : Text} {xs : SpannedTrees} {r : Chain} → Parts a i s xs j → Keywords a f r i (sent f j.last r s xs) j
    AnyKeywords : {f : ℕ} {i j : Input} {s : Text} {xs : SpannedTrees} {r : Chain} → AnyMessage a i s xs j → Keywords a f r i (sent f j.last r s xs) j
    NoKeywords : {f : ℕ} {i : Input} {r : Chain} → Ends a (NoKey (kind_of i)) → Keywords a f r i r i

  -- any message, which ends the row of keywords that it stands for
  pub data AnyMessage (a : Rows) : Input → Text → SpannedTrees → Input → Type 0 where
    WholeMessage : {i : Input} {k n : Text} → kind_of i ≡ MessageMeta k → kind_of (next i) ≡ OperandMeta AnyExpression n → Ends a (NoKey (kind_of (next (next i)))) →
        AnyMessage a i k (one_tree (Var (from_of (next i)) (next (next i)).last n)) (next (next i))

  -- keywords, each with its argument
  pub data Parts (a : Rows) : Input → Text → SpannedTrees → Input → Type 0 where
    LastPart : {i j : Input} {c : KeywordKind} {k : Text} {x : SpannedTree} → kind_of i ≡ Keyword c k → KeywordArgument a (next i) x j → Ends a (NoKey (kind_of j)) → Parts a i k (one_tree x) j
    FurtherPart : {i m j : Input} {c : KeywordKind} {k s : Text} {x : SpannedTree} {xs : SpannedTrees} → kind_of i ≡ Keyword c k → KeywordArgument a (next i) x m → Parts a m s xs j → Parts a i (k ++ s) (MoreTrees x xs) j

  -- the argument of a binary message: an operand with unary messages
  pub data Argument (a : Rows) : Input → SpannedTree → Input → Type 0 where
    BinaryArgument : {i m j : Input} {r u : Chain} → Operand a i r m → Unaries a (from_of i) r m u j → IsWhole u → Argument a i (whole u) j

  -- the argument of a keyword: an operand with unary and binary messages
  pub data KeywordArgument (a : Rows) : Input → SpannedTree → Input → Type 0 where
    ArgumentOfKeyword : {i m n j : Input} {r u b : Chain} → Operand a i r m → Unaries a (from_of i) r m u n → Binaries a (from_of i) u n b j → IsWhole b → KeywordArgument a i (whole b) j

  -- a cascade goes on from the receiver of the last message
  pub data Cascaded (a : Rows) : Chain → Input → SpannedTree → Input → Type 0 where
    NoCascade : {i : Input} {r : Chain} → IsWhole r → Ends a (NoSemicolon (kind_of i)) → Cascaded a r i (whole r) i
    OneCascade : {f e : ℕ} {i j : Input} {r : SpannedTree} {s : Text} {xs : SpannedTrees} {ms : SpannedMessages} → kind_of i ≡ Semicolon → Messages a i ms j → Cascaded a (Told f e r s xs) i (Cascade f j.last r (MoreMessages s xs ms)) j

  -- messages, each behind a semicolon
  pub data Messages (a : Rows) : Input → SpannedMessages → Input → Type 0 where
    OneMessage : {i m j : Input} {s : Text} {xs : SpannedTrees} {ms : SpannedMessages} → kind_of i ≡ Semicolon → Message a (next i) s xs m → Messages a m ms j → Messages a i (MoreMessages s xs ms) j
    LastMessage : {i : Input} → Ends a (NoSemicolon (kind_of i)) → Messages a i NoMessages i

  -- one message of a cascade
  pub data Message (a : Rows) : Input → Text → SpannedTrees → Input → Type 0 where
    UnaryMessage : {i : Input} {c : NameKind} {n : Text} → kind_of i ≡ Name c n → Message a i n NoTrees (next i)
    AnyUnaryMessage : {i : Input} {n : Text} → kind_of i ≡ OperandMeta AnyName n → Message a i n NoTrees (next i)
    BinaryMessage : {i j : Input} {c : BinaryKind} {s : Text} {x : SpannedTree} → kind_of i ≡ Binary c s → Argument a (next i) x j → Message a i s (one_tree x) j
    KeywordMessage : {i j : Input} {s : Text} {xs : SpannedTrees} → Parts a i s xs j → Message a i s xs j
    AnyKeywordMessage : {i j : Input} {s : Text} {xs : SpannedTrees} → AnyMessage a i s xs j → Message a i s xs j

  -- the expressions of a brace array, with periods between them; one more period may stand behind the last
  pub data Items (a : Rows) : Input → SpannedTrees → Input → Type 0 where
    NoItems : {i : Input} → Ends a (NoOperand (kind_of i)) → Items a i NoTrees i
    OneItem : {i m j : Input} {t : SpannedTree} {ts : SpannedTrees} → Expression a i t m → FurtherItems a m ts j → Items a i (MoreTrees t ts) j

  -- what stands behind an expression of a brace array
  pub data FurtherItems (a : Rows) : Input → SpannedTrees → Input → Type 0 where
    NextItem : {i j : Input} {ts : SpannedTrees} → kind_of i ≡ Period → Items a (next i) ts j → FurtherItems a i ts j
    LastItem : {i : Input} → Ends a (NoPeriod (kind_of i)) → FurtherItems a i NoTrees i

  -- what stands between the brackets of a block
  pub data BlockBody (a : Rows) : Input → List Declared → List Declared → SpannedStatements → Input → Type 0 where
    WithoutParameters : {i j : Input} {ds : List Declared} {ss : SpannedStatements} → Ends a (NoColon (kind_of i)) → Sequence a i ds ss j → BlockBody a i [] ds ss j
    ParametersAlone : {i j : Input} {ps : List Declared} → kind_of i ≡ Colon → Parameters a i ps j → kind_of j ≡ Closes BlockEnd → BlockBody a i ps [] NoStatements j
    WithParameters : {i m j : Input} {s : Text} {ps ds : List Declared} {ss : SpannedStatements} → kind_of i ≡ Colon → Parameters a i ps m → kind_of m ≡ Binary Bar s → Sequence a (next m) ds ss j → BlockBody a i ps ds ss j

  -- temporaries and statements
  pub data Sequence (a : Rows) : Input → List Declared → SpannedStatements → Input → Type 0 where
    Sequenced : {i m j : Input} {ds : List Declared} {ss : SpannedStatements} → Temporaries a i ds m → Statements a m ss j → Sequence a i ds ss j

  -- periods and statements; a return is the last statement
  pub data Statements (a : Rows) : Input → SpannedStatements → Input → Type 0 where
    BlankPeriod : {i j : Input} {ss : SpannedStatements} → kind_of i ≡ Period → Statements a (next i) ss j → Statements a i ss j
    NoMore : {i : Input} → Ends a (NoStatement (kind_of i)) → Statements a i NoStatements i
    Returned : {i m j : Input} {t : SpannedTree} {c : Notes} → kind_of i ≡ Caret → Expression a (next i) t m → Finish a m c j → Statements a i (MoreStatements c (from_of i) (Return (from_of i) m.last t) NoStatements) j
    AnyStatement : {i j : Input} {n : Text} {c : Notes} {ss : SpannedStatements} → kind_of i ≡ StatementMeta n → After a (next i) c ss j → Statements a i (MoreStatements c (from_of i) (Var (from_of i) (next i).last n) ss) j
    OneStatement : {i m j : Input} {t : SpannedTree} {c : Notes} {ss : SpannedStatements} → Expression a i t m → After a m c ss j → Statements a i (MoreStatements c (from_of i) t ss) j

  -- what stands behind a statement; the comments before its period are its own
  pub data After (a : Rows) : Input → Notes → SpannedStatements → Input → Type 0 where
    Ended : {i j : Input} {ss : SpannedStatements} → kind_of i ≡ Period → Statements a (clear (next i)) ss j → After a i (next i).held ss j
    Unended : {i : Input} → Ends a (NoPeriod (kind_of i)) → After a i i.held NoStatements (clear i)

  -- what stands behind a return; the comments before its first period are its own
  pub data Finish (a : Rows) : Input → Notes → Input → Type 0 where
    EndedReturn : {i j : Input} → kind_of i ≡ Period → Periods a (clear (next i)) j → Finish a i (next i).held j
    UnendedReturn : {i : Input} → Ends a (NoPeriod (kind_of i)) → Finish a i i.held (clear i)
