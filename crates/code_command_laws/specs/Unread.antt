-- Names that a tree does not read.
use Rattle.std.specs.Prelude.{◌≡◌, List, ℕ}
use Rattle.tree_model.specs.Tree.{TreeOf, var, literal, send, cascade, assign, block, brace, return, TreesOf, no_trees, more_trees, MessagesOf, no_messages, more_messages, StatementsOf, no_statements, more_statements}
use Rattle.command_model.specs.Walk.{Making}

-- the node does not read the name
abbrev pub IsNoRead : {N : Type 0} → N → TreeOf N → Type 0
IsNoRead x (var n) = ¬ (n ≡ x)
IsNoRead x t = Unit {0}

-- no node of a tree reads the name
abbrev mutual
  pub IsUnread : {N : Type 0} → N → TreeOf N → Type 0
  IsUnread x (var n) = ¬ (n ≡ x)
  IsUnread x (literal l) = Unit {0}
  IsUnread x (send r s args) = IsUnread x r × AreUnread x args
  IsUnread x (cascade r ms) = IsUnread x r × IsUnreadInMessages x ms
  IsUnread x (assign n t) = IsUnread x t
  IsUnread x (block ps ts ss e) = IsUnreadInStatements x ss
  IsUnread x (brace ts) = AreUnread x ts
  IsUnread x (return t) = IsUnread x t

  pub AreUnread : {N : Type 0} → N → TreesOf N → Type 0
  AreUnread x no_trees = Unit {0}
  AreUnread x (more_trees t ts) = IsUnread x t × AreUnread x ts

  pub IsUnreadInMessages : {N : Type 0} → N → MessagesOf N → Type 0
  IsUnreadInMessages x no_messages = Unit {0}
  IsUnreadInMessages x (more_messages s args ms) = AreUnread x args × IsUnreadInMessages x ms

  pub IsUnreadInStatements : {N : Type 0} → N → StatementsOf N → Type 0
  IsUnreadInStatements x no_statements = Unit {0}
  IsUnreadInStatements x (more_statements c t ss) = IsUnread x t × IsUnreadInStatements x ss

-- a walk changes reads of the name alone
abbrev pub ChangesReadsOf : {N : Type 0} → N → Making N → Type 0
ChangesReadsOf {N} x f = (path : List ℕ) (t : TreeOf N) → IsNoRead x t → f path t ≡ t
