-- A tree in a list of trees or messages replaced, and where an argument stands among messages.
use Rattle.std.specs.Prelude.{◌≡◌, ℕ, zero, suc, ◌-◌, ◌<◌, ◌≤◌, List, [], ◌∷◌, length, option_map, unwrap_or}
use Rattle.tree_model.specs.Tree.{TreeOf, TreesOf, MessagesOf}
use Rattle.tree_model.specs.Path.{nth, all_arguments, with_nth, with_argument, replaced}
use Rattle.st_tree.specs.declared.tree.Message.{Message}

-- the same trees, with u where the path leads from the tree of a number
abbrev pub trees_replaced : TreesOf ℕ → ℕ → List ℕ → TreeOf ℕ → TreesOf ℕ
trees_replaced ts k path u = unwrap_or (option_map (λ c. with_nth ts k (replaced c path u)) (nth ts k)) ts

-- the same messages, with u where the path leads from the argument of a number, counted through all messages
abbrev pub messages_replaced : MessagesOf ℕ → ℕ → List ℕ → TreeOf ℕ → MessagesOf ℕ
messages_replaced ms k path u = unwrap_or (option_map (λ c. with_argument ms k (replaced c path u)) (nth (all_arguments ms) k)) ms

-- of all arguments, the one of number k is that of number j of message i
abbrev pub IsPlace : List Message → ℕ → ℕ → ℕ → Type 0
IsPlace [] k i j = ⊥
IsPlace (m ∷ ms) k zero j = (k ≡ j) × (j < length m.arguments)
IsPlace (m ∷ ms) k (suc i) j = (length m.arguments ≤ k) × IsPlace ms (k - length m.arguments) i j
