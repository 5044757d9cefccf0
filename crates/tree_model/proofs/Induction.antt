-- Induction on trees by the nodes right below a node.
use Rattle.tree_model.specs.Tree.{TreeOf, var, literal, send, cascade, assign, block, brace, return, TreesOf, no_trees, more_trees, MessagesOf, no_messages, more_messages, StatementsOf, no_statements, more_statements}
use Rattle.tree_model.specs.Path.{append, all_arguments, statement_trees, children}

-- a fact of each tree of a list
abbrev pub AllTrees : {N : Type 0} → (TreeOf N → Type 0) → TreesOf N → Type 0
AllTrees P no_trees = Unit {0}
AllTrees P (more_trees t ts) = P t × AllTrees P ts

module _ {N : Type 0} (P : TreeOf N → Type 0) where
  -- a fact of the trees of two lists
  pub AllTrees-append : (ts us : TreesOf N) → AllTrees P ts → AllTrees P us → AllTrees P (append ts us)
  AllTrees-append no_trees us p q = q
  AllTrees-append (more_trees t ts) us p q = (p.0, AllTrees-append ts us p.1 q)

  -- what goes from the nodes right below a node to the node is a fact of each tree
  mutual
    pub by_children : ((t : TreeOf N) → AllTrees P (children t) → P t) → (t : TreeOf N) → P t
    by_children step (var n) = step (var n) tt
    by_children step (literal l) = step (literal l) tt
    by_children step (send r s args) = step (send r s args) (by_children step r, by_children_trees step args)
    by_children step (cascade r ms) = step (cascade r ms) (by_children step r, by_children_messages step ms)
    by_children step (assign n t) = step (assign n t) (by_children step t, tt)
    by_children step (block ps ts ss e) = step (block ps ts ss e) (by_children_statements step ss)
    by_children step (brace ts) = step (brace ts) (by_children_trees step ts)
    by_children step (return t) = step (return t) (by_children step t, tt)

    pub by_children_trees : ((t : TreeOf N) → AllTrees P (children t) → P t) → (ts : TreesOf N) → AllTrees P ts
    by_children_trees step no_trees = tt
    by_children_trees step (more_trees t ts) = (by_children step t, by_children_trees step ts)

    pub by_children_messages : ((t : TreeOf N) → AllTrees P (children t) → P t) → (ms : MessagesOf N) → AllTrees P (all_arguments ms)
    by_children_messages step no_messages = tt
    by_children_messages step (more_messages s args ms) =
        AllTrees-append args (all_arguments ms) (by_children_trees step args) (by_children_messages step ms)

    pub by_children_statements : ((t : TreeOf N) → AllTrees P (children t) → P t) → (ss : StatementsOf N) → AllTrees P (statement_trees ss)
    by_children_statements step no_statements = tt
    by_children_statements step (more_statements c t ss) = (by_children step t, by_children_statements step ss)
