-- What is known of a list is known of each item.
use Rattle.std.proofs.Common.{◌≡◌, ℕ, zero, suc, ◌<◌, List, [], ◌∷◌, length, get_or, sym, subst, arith}
use Rattle.tree_model.specs.Tree.{TreeOf, trees_of}
use Rattle.tree_model.specs.AllNames.{AllNames, TreesNames, MessagesNames, StatementsNames}
use Rattle.st_tree.specs.View.{messages_of, statements_of}
use Rattle.st_tree.specs.declared.tree.Message.{Message}
use Rattle.st_tree.specs.declared.tree.Statement.{Statement}

module _ (P : ℕ → Type 0) where
  -- of trees
  pub tree_of_list : (ts : List (TreeOf ℕ)) (i : ℕ) (t : TreeOf ℕ) → i < length ts → t ≡ get_or ts i t → TreesNames P (trees_of ts) → AllNames P t
  tree_of_list [] i t h e k = absurd (omega arith)
  tree_of_list (u ∷ ts) zero t h e k = subst (AllNames P) (sym e) k.0
  tree_of_list (u ∷ ts) (suc i) t h e k = tree_of_list ts i t (omega arith) e k.1

  -- of messages
  pub message_of_list : (ms : List Message) (i : ℕ) (m : Message) → i < length ms → m ≡ get_or ms i m → MessagesNames P (messages_of ms) → P m.selector × TreesNames P (trees_of m.arguments)
  message_of_list [] i m h e k = absurd (omega arith)
  message_of_list (u ∷ ms) zero m h e k = subst (λ (x : Message). P x.selector × TreesNames P (trees_of x.arguments)) (sym e) (k.0, k.1)
  message_of_list (u ∷ ms) (suc i) m h e k = message_of_list ms i m (omega arith) e k.2

  -- of statements
  pub statement_of_list : (ss : List Statement) (i : ℕ) (s : Statement) → i < length ss → s ≡ get_or ss i s → StatementsNames P (statements_of ss) → AllNames P s.node
  statement_of_list [] i s h e k = absurd (omega arith)
  statement_of_list (u ∷ ss) zero s h e k = subst (λ (x : Statement). AllNames P x.node) (sym e) k.0
  statement_of_list (u ∷ ss) (suc i) s h e k = statement_of_list ss i s (omega arith) e k.1
