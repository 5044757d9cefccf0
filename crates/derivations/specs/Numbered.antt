-- Patterns as trees over numbers, in which a table of marks has the numbers that stand for metavariables.
use Rattle.std.specs.Prelude.{ℕ, ◌+◌, List, map}
use Rattle.std.specs.List.{position_or_len}
use Rattle.tree_model.specs.Tree.{trees_of, TreeOf, var, literal, send, cascade, assign, block, brace, return, TreesOf, no_trees, more_trees, MessagesOf, no_messages, more_messages, StatementsOf, no_statements, more_statements}
use Rattle.pattern_model.specs.Patterns.{SelectorLike, this_selector, any_unary, of_keywords, any_message, PatternOf, meta, var_like, literal_like, send_like, cascade_like, assign_like, block_like, brace_like, return_like, PatternsOf, no_patterns, more_patterns, MessagesLike, no_messages_like, more_messages_like, StatementsLike, no_statements_like, more_statements_like}
use Rattle.st_tree.specs.declared.tree.Message.{Message}
use Rattle.st_tree.specs.declared.tree.Statement.{Statement}
use Rattle.patterns.specs.View.{selector_of}
use Rattle.patterns.specs.declared.tree.PatternMessage.{PatternMessage}
use Rattle.patterns.specs.declared.tree.PatternStatement.{PatternStatement}
use Rattle.derivations.specs.declared.marking.Marks.{Marks}
use Rattle.derivations.specs.Signs.{Sign, of_node, of_selector, sign_of, same_sign}

-- marks in order, and the number of the first
pub record Table : Type 0 where
  pub first : ℕ
  pub signs : List Sign

abbrev pub table_of : Marks → Table
table_of m = record { first = m.first; signs = map sign_of m.items.items }

module _ (table : Table) where
  -- the number of a mark
  abbrev pub number_of : Sign → ℕ
  number_of s = table.first + position_or_len (λ x. same_sign x s) table.signs

  -- a selector that is spelled out stands for itself
  abbrev pub selector_number : SelectorLike ℕ → ℕ
  selector_number (this_selector n) = n
  selector_number (any_unary m) = number_of (of_selector (any_unary m))
  selector_number (of_keywords ks) = number_of (of_selector (of_keywords ks))
  selector_number (any_message m) = number_of (of_selector (any_message m))

  -- a pattern as a tree
  abbrev mutual
    pub numbered : PatternOf ℕ → TreeOf ℕ
    numbered (meta m) = var (number_of (of_node m))
    numbered (var_like n) = var n
    numbered (literal_like l) = literal l
    numbered (send_like r s ps) = send (numbered r) (selector_number s) (numbered_trees ps)
    numbered (cascade_like r ms) = cascade (numbered r) (numbered_messages ms)
    numbered (assign_like n p) = assign n (numbered p)
    numbered (block_like ps ts ss e) = block ps ts (numbered_statements ss) e
    numbered (brace_like ps) = brace (numbered_trees ps)
    numbered (return_like p) = return (numbered p)

    pub numbered_trees : PatternsOf ℕ → TreesOf ℕ
    numbered_trees no_patterns = no_trees
    numbered_trees (more_patterns p ps) = more_trees (numbered p) (numbered_trees ps)

    pub numbered_messages : MessagesLike ℕ → MessagesOf ℕ
    numbered_messages no_messages_like = no_messages
    numbered_messages (more_messages_like s ps ms) = more_messages (selector_number s) (numbered_trees ps) (numbered_messages ms)

    pub numbered_statements : StatementsLike ℕ → StatementsOf ℕ
    numbered_statements no_statements_like = no_statements
    numbered_statements (more_statements_like c p ss) = more_statements c (numbered p) (numbered_statements ss)

  -- the program's messages and statements of patterns
  abbrev pub message_in : PatternMessage → Message
  message_in m = record { selector = selector_number (selector_of m.selector); arguments = map numbered m.arguments.items }

  abbrev pub statement_in : PatternStatement → Statement
  statement_in s = record { comments = s.comments; node = numbered s.node }

-- a message to a receiver
abbrev pub sent : TreeOf ℕ → Message → TreeOf ℕ
sent r m = send r m.selector (trees_of m.arguments)
