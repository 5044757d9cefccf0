-- Each part of a list weighs less than the list.
use Rattle.std.proofs.Common.{◌≡◌, ℕ, zero, suc, ◌<◌, List, [], ◌∷◌, length, get_or, arith, ap}
use Rattle.tree_model.specs.Tree.{TreeOf, trees_of}
use Rattle.tree_model.specs.Measure.{weight, trees_weight, messages_weight, statements_weight}
use Rattle.st_tree.specs.View.{messages_of, statements_of}
use Rattle.st_tree.specs.declared.tree.Message.{Message}
use Rattle.st_tree.specs.declared.tree.Statement.{Statement}

-- of trees
pub weight-tree : (ts : List (TreeOf ℕ)) (i : ℕ) (t : TreeOf ℕ) → i < length ts → t ≡ get_or ts i t → weight t < trees_weight (trees_of ts)
weight-tree [] i t h e = absurd (omega arith)
weight-tree (u ∷ ts) zero t h e = omega (arith, ap (weight {N = ℕ}) e)
weight-tree (u ∷ ts) (suc i) t h e = omega (arith, weight-tree ts i t (omega arith) e)

-- of messages
pub weight-message : (ms : List Message) (i : ℕ) (m : Message) → i < length ms → m ≡ get_or ms i m → trees_weight (trees_of m.arguments) < messages_weight (messages_of ms)
weight-message [] i m h e = absurd (omega arith)
weight-message (k ∷ ms) zero m h e = omega (arith, ap (λ (n : Message). trees_weight (trees_of n.arguments)) e)
weight-message (k ∷ ms) (suc i) m h e = omega (arith, weight-message ms i m (omega arith) e)

-- of statements
pub weight-statement : (ss : List Statement) (i : ℕ) (s : Statement) → i < length ss → s ≡ get_or ss i s → weight s.node < statements_weight (statements_of ss)
weight-statement [] i s h e = absurd (omega arith)
weight-statement (k ∷ ss) zero s h e = omega (arith, ap (λ (n : Statement). weight n.node) e)
weight-statement (k ∷ ss) (suc i) s h e = omega (arith, weight-statement ss i s (omega arith) e)

pub ruleset weight_lemmas = (weight-tree, weight-message, weight-statement)
