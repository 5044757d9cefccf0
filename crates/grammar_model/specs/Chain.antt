-- A receiver and the messages that it was sent.
use Rattle.std.specs.Prelude.{ℕ}
use Rattle.grammar_model.specs.Terminal.{Text}
use Rattle.grammar_model.specs.Spanned.{SpannedTree, Var, Send, SpannedTrees}

-- The last message stands apart, since a cascade goes on from its receiver.
pub data Chain : Type 0 where
  -- super alone, which awaits a message
  Waiting : ℕ → ℕ → Text → Chain
  -- no message from which a cascade could go on
  Alone : SpannedTree → Chain
  -- the span of all, the receiver of the last message, its selector and its arguments
  Told : ℕ → ℕ → SpannedTree → Text → SpannedTrees → Chain

-- the tree that it is so far
abbrev pub whole : Chain → SpannedTree
whole (Waiting f e n) = Var f e n
whole (Alone t) = t
whole (Told f e r s xs) = Send f e r s xs

-- one more message is sent, and the text is then from f up to e
abbrev pub sent : ℕ → ℕ → Chain → Text → SpannedTrees → Chain
sent f e (Waiting g h n) s xs = Alone (Send f e (Var g h n) s xs)
sent f e (Alone t) s xs = Told f e t s xs
sent f e (Told g h r t ys) s xs = Told f e (Send g h r t ys) s xs

-- super has its message
abbrev pub IsWhole : Chain → Type 0
IsWhole (Waiting f e n) = ⊥
IsWhole c = Unit {0}
