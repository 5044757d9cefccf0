-- The items of a list: their names, and that each weighs less than the list.
use Rattle.std.proofs.Common.{◌≡◌, sym, ap, subst, ℕ, zero, suc, ◌<◌, List, [], ◌∷◌, length, get_or, arith}
use Rattle.tree_model.specs.Tree.{LiteralOf, literals_of, TreeOf, trees_of}
use Rattle.tree_model.specs.Measure.{literal_weight, literals_weight, weight, trees_weight, messages_weight, statements_weight}
use Rattle.tree_model.specs.AllNames.{LiteralNames, LiteralsNames, AllNames, TreesNames, MessagesNames, StatementsNames}
use Rattle.st_tree.specs.View.{messages_of, statements_of}
use Rattle.st_tree.specs.declared.tree.Message.{Message}
use Rattle.st_tree.specs.declared.tree.Statement.{Statement}

-- a literal of a list weighs less than the list
pub literal_weight-item : (ls : List (LiteralOf ℕ)) (i : ℕ) (l : LiteralOf ℕ) → i < length ls → l ≡ get_or ls i l → literal_weight l < literals_weight (literals_of ls)
literal_weight-item [] i l h e = absurd (omega arith)
literal_weight-item (m ∷ ls) zero l h e = omega (arith, ap (literal_weight {N = ℕ}) e)
literal_weight-item (m ∷ ls) (suc i) l h e = omega (arith, literal_weight-item ls i l (omega arith) e)

-- a tree of a list weighs less than the list
pub weight-item : (ts : List (TreeOf ℕ)) (i : ℕ) (t : TreeOf ℕ) → i < length ts → t ≡ get_or ts i t → weight t < trees_weight (trees_of ts)
weight-item [] i t h e = absurd (omega arith)
weight-item (u ∷ ts) zero t h e = omega (arith, ap (weight {N = ℕ}) e)
weight-item (u ∷ ts) (suc i) t h e = omega (arith, weight-item ts i t (omega arith) e)

-- the arguments of a message of a list weigh less than the list
pub message_weight-item : (ms : List Message) (i : ℕ) (m : Message) → i < length ms → m ≡ get_or ms i m → trees_weight (trees_of m.arguments) < messages_weight (messages_of ms)
message_weight-item [] i m h e = absurd (omega arith)
message_weight-item (n ∷ ms) zero m h e = omega (arith, ap (λ (v : Message). trees_weight (trees_of v.arguments)) e)
message_weight-item (n ∷ ms) (suc i) m h e = omega (arith, message_weight-item ms i m (omega arith) e)

-- the tree of a statement of a list weighs less than the list
pub statement_weight-item : (ss : List Statement) (i : ℕ) (s : Statement) → i < length ss → s ≡ get_or ss i s → weight s.node < statements_weight (statements_of ss)
statement_weight-item [] i s h e = absurd (omega arith)
statement_weight-item (r ∷ ss) zero s h e = omega (arith, ap (λ (v : Statement). weight v.node) e)
statement_weight-item (r ∷ ss) (suc i) s h e = omega (arith, statement_weight-item ss i s (omega arith) e)

module _ (P : ℕ → Type 0) where
  -- the names of a literal of a list
  pub LiteralNames-item : (ls : List (LiteralOf ℕ)) (i : ℕ) (l : LiteralOf ℕ) → i < length ls → l ≡ get_or ls i l → LiteralsNames P (literals_of ls) → LiteralNames P l
  LiteralNames-item [] i l h e p = absurd (omega arith)
  LiteralNames-item (m ∷ ls) zero l h e p = subst (LiteralNames P) (sym e) p.0
  LiteralNames-item (m ∷ ls) (suc i) l h e p = LiteralNames-item ls i l (omega arith) e p.1

  -- the names of a tree of a list
  pub AllNames-item : (ts : List (TreeOf ℕ)) (i : ℕ) (t : TreeOf ℕ) → i < length ts → t ≡ get_or ts i t → TreesNames P (trees_of ts) → AllNames P t
  AllNames-item [] i t h e p = absurd (omega arith)
  AllNames-item (u ∷ ts) zero t h e p = subst (AllNames P) (sym e) p.0
  AllNames-item (u ∷ ts) (suc i) t h e p = AllNames-item ts i t (omega arith) e p.1

  -- the names in the arguments of a message of a list
  pub ArgumentNames-item : (ms : List Message) (i : ℕ) (m : Message) → i < length ms → m ≡ get_or ms i m → MessagesNames P (messages_of ms) → TreesNames P (trees_of m.arguments)
  ArgumentNames-item [] i m h e p = absurd (omega arith)
  ArgumentNames-item (n ∷ ms) zero m h e p = subst (λ (v : Message). TreesNames P (trees_of v.arguments)) (sym e) p.1
  ArgumentNames-item (n ∷ ms) (suc i) m h e p = ArgumentNames-item ms i m (omega arith) e p.2

  -- the names of a statement of a list
  pub StatementNames-item : (ss : List Statement) (i : ℕ) (s : Statement) → i < length ss → s ≡ get_or ss i s → StatementsNames P (statements_of ss) → AllNames P s.node
  StatementNames-item [] i s h e p = absurd (omega arith)
  StatementNames-item (r ∷ ss) zero s h e p = subst (λ (v : Statement). AllNames P v.node) (sym e) p.0
  StatementNames-item (r ∷ ss) (suc i) s h e p = StatementNames-item ss i s (omega arith) e p.1

-- the selector of a message of a list
pub selector-item : (n : ℕ) (ms : List Message) (i : ℕ) (m : Message) → i < length ms → m ≡ get_or ms i m → MessagesNames (λ k. k < n) (messages_of ms) → m.selector < n
selector-item n [] i m h e p = absurd (omega arith)
selector-item n (l ∷ ms) zero m h e p = subst (λ (v : Message). v.selector < n) (sym e) p.0
selector-item n (l ∷ ms) (suc i) m h e p = selector-item n ms i m (omega arith) e p.2

pub ruleset item_rules = (literal_weight-item, weight-item, message_weight-item, statement_weight-item, LiteralNames-item, AllNames-item, ArgumentNames-item, selector-item, StatementNames-item)
