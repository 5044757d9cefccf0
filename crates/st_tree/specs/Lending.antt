-- What a list of a tree becomes when an item of it, or all, are lent and written.
use Rattle.std.specs.Prelude.{ℕ, List, ◌++◌, Option, take, drop, length, slice_set}
use Rattle.std.specs.Borrow.{Lends, LendsIf, MutBor, Fml, Array}
use Rattle.tree_model.specs.Tree.{TreeOf}
use Rattle.st_tree.specs.declared.tree.Message.{Message}
use Rattle.st_tree.specs.declared.tree.Statement.{Statement}
use Rattle.st_tree.specs.contracts.tree.Node as node
use Rattle.st_tree.specs.contracts.tree.Nodes as nodes
use Rattle.st_tree.specs.contracts.tree.Message as message
use Rattle.st_tree.specs.contracts.tree.Messages as messages
use Rattle.st_tree.specs.contracts.tree.Statement as statement
use Rattle.st_tree.specs.contracts.tree.Statements as statements

-- xs with its first items overwritten by ws: ws itself where both are as long
abbrev pub overwritten : {X : Type 0} → List X → List X → List X
overwritten xs ws = take (length xs) (ws ++ drop (length ws) xs)

-- the nodes end with the last value behind r at a number
abbrev pub LendsNode : MutBor (List (TreeOf ℕ)) → ℕ → Option (MutBor (TreeOf ℕ)) → Fml
LendsNode s k r = LendsIf nodes.the_row node.the_row s r (λ w. slice_set s.now k w) s.now

-- the nodes end as the last values behind r
abbrev pub LendsNodes : MutBor (List (TreeOf ℕ)) → MutBor (List (TreeOf ℕ)) → Fml
LendsNodes s r = Lends nodes.the_row (Array node.the_row 0) s r (overwritten s.now)

-- the messages end with the last value behind r at a number
abbrev pub LendsMessage : MutBor (List Message) → ℕ → Option (MutBor Message) → Fml
LendsMessage s k r = LendsIf messages.the_row message.the_row s r (λ w. slice_set s.now k w) s.now

-- the messages end as the last values behind r
abbrev pub LendsMessages : MutBor (List Message) → MutBor (List Message) → Fml
LendsMessages s r = Lends messages.the_row (Array message.the_row 0) s r (overwritten s.now)

-- the statements end with the last value behind r at a number
abbrev pub LendsStatement : MutBor (List Statement) → ℕ → Option (MutBor Statement) → Fml
LendsStatement s k r = LendsIf statements.the_row statement.the_row s r (λ w. slice_set s.now k w) s.now

-- the statements end as the last values behind r
abbrev pub LendsStatements : MutBor (List Statement) → MutBor (List Statement) → Fml
LendsStatements s r = Lends statements.the_row (Array statement.the_row 0) s r (overwritten s.now)
