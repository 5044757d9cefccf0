-- What becomes of a node, a do-it or a method when the part where a path leads is lent and written.
use Rattle.std.specs.Prelude.{ℕ, List, Option}
use Rattle.std.specs.Borrow.{LendsIf, MutBor, Fml}
use Rattle.tree_model.specs.Tree.{TreeOf}
use Rattle.tree_model.specs.Path.{replaced, replaced_in, method_replaced}
use Rattle.st_tree.specs.View.{tree_of, sequence_of, sequence_from, method_of, method_from}
use Rattle.st_tree.specs.declared.tree.Sequence.{Sequence}
use Rattle.st_tree.specs.declared.tree.Method.{Method}
use Rattle.st_tree.specs.declared.tree.NodeKind.{NodeKind}
use Rattle.st_tree.specs.contracts.tree.Node as node
use Rattle.st_tree.specs.contracts.tree.NodeKind as kinds
use Rattle.st_tree.specs.contracts.tree.Sequence as sequence
use Rattle.st_tree.specs.contracts.tree.Method as method

-- the node ends with the last value behind r where the path leads; without r it stays as it is
abbrev pub LendsPart : MutBor (TreeOf ℕ) → List ℕ → Option (MutBor NodeKind) → Fml
LendsPart s path r = LendsIf node.the_row kinds.the_row s r (λ w. replaced s.now path (tree_of w)) s.now

-- the do-it ends with the last value behind r where the path leads; without r it stays as it is
abbrev pub LendsPartOfDoit : MutBor Sequence → List ℕ → Option (MutBor (TreeOf ℕ)) → Fml
LendsPartOfDoit s path r = LendsIf sequence.the_row node.the_row s r (λ w. sequence_from (replaced_in (sequence_of s.now) path w)) s.now

-- the method ends with the last value behind r where the path leads; without r it stays as it is
abbrev pub LendsPartOfMethod : MutBor Method → List ℕ → Option (MutBor (TreeOf ℕ)) → Fml
LendsPartOfMethod s path r = LendsIf method.the_row node.the_row s r (λ w. method_from (method_replaced (method_of s.now) path w)) s.now
