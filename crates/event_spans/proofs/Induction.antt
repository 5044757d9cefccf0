-- Induction on trees with places by the nodes right below a node.
use Rattle.grammar_model.specs.Spanned.{SpannedTree, Var, Literal, Send, Cascade, Assign, Block, Brace, Return, SpannedTrees, NoTrees, MoreTrees, SpannedMessages, NoMessages, MoreMessages, SpannedStatements, NoStatements, MoreStatements}
use Rattle.grammar_model.specs.Spans.{spanned_append, spanned_arguments, spanned_statements, spanned_children}

-- a fact of each tree of a list
abbrev pub AllTrees : (SpannedTree → Type 0) → SpannedTrees → Type 0
AllTrees P NoTrees = Unit {0}
AllTrees P (MoreTrees t ts) = P t × AllTrees P ts

module _ (P : SpannedTree → Type 0) where
  -- a fact of the trees of two lists
  AllTrees-append : (ts us : SpannedTrees) → AllTrees P ts → AllTrees P us → AllTrees P (spanned_append ts us)
  AllTrees-append NoTrees us p q = q
  AllTrees-append (MoreTrees t ts) us p q = (p.0, AllTrees-append ts us p.1 q)

  -- what goes from the nodes right below a node to the node is a fact of each tree
  mutual
    pub by_children : ((t : SpannedTree) → AllTrees P (spanned_children t) → P t) → (t : SpannedTree) → P t
    by_children step (Var f e n) = step (Var f e n) tt
    by_children step (Literal f e l) = step (Literal f e l) tt
    by_children step (Send f e r s xs) = step (Send f e r s xs) (by_children step r, by_children_trees step xs)
    by_children step (Cascade f e r ms) = step (Cascade f e r ms) (by_children step r, by_children_messages step ms)
    by_children step (Assign f e n t) = step (Assign f e n t) (by_children step t, tt)
    by_children step (Block f e ps ds ss c) = step (Block f e ps ds ss c) (by_children_statements step ss)
    by_children step (Brace f e ts) = step (Brace f e ts) (by_children_trees step ts)
    by_children step (Return f e t) = step (Return f e t) (by_children step t, tt)

    pub by_children_trees : ((t : SpannedTree) → AllTrees P (spanned_children t) → P t) → (ts : SpannedTrees) → AllTrees P ts
    by_children_trees step NoTrees = tt
    by_children_trees step (MoreTrees t ts) = (by_children step t, by_children_trees step ts)

    pub by_children_messages : ((t : SpannedTree) → AllTrees P (spanned_children t) → P t) → (ms : SpannedMessages) → AllTrees P (spanned_arguments ms)
    by_children_messages step NoMessages = tt
    by_children_messages step (MoreMessages s xs ms) = AllTrees-append xs (spanned_arguments ms) (by_children_trees step xs) (by_children_messages step ms)

    pub by_children_statements : ((t : SpannedTree) → AllTrees P (spanned_children t) → P t) → (ss : SpannedStatements) → AllTrees P (spanned_statements ss)
    by_children_statements step NoStatements = tt
    by_children_statements step (MoreStatements c f t ss) = (by_children step t, by_children_statements step ss)
