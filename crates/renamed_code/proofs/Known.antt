-- A fact of each name in code holds of each name in the code after, where it holds of the new names.
use Rattle.std.proofs.Common.{ℕ, suc, ◌+◌, List, [], ◌∷◌}
use Rattle.tree_model.specs.Tree.{TreeOf, var, literal, send, cascade, assign, block, brace, return, TreesOf, no_trees, more_trees, MessagesOf, no_messages, more_messages, StatementsOf, no_statements, more_statements}
use Rattle.tree_model.specs.Path.{count}
use Rattle.tree_model.specs.AllNames.{AllNames, TreesNames, MessagesNames, StatementsNames}
use Rattle.rename_model.specs.Renamed.{NewName, beyond, renamed, renamed_trees, renamed_messages, renamed_statements}
use Rattle.rename_model.specs.SelectorRenamed.{sends_anew, trees_anew, messages_anew, statements_anew}

module _ {N : Type 0} (P : N → Type 0) where
  -- names
  mutual
    names-renamed : (to : NewName N) (t : TreeOf N) → ((path : List ℕ) (n : N) → P n → P (to path n)) → AllNames P t → AllNames P (renamed to t)
    names-renamed to (var n) h p = h [] n p
    names-renamed to (literal l) h p = p
    names-renamed to (send r s args) h p = (names-renamed (beyond 0 to) r (λ path. h (0 ∷ path)) p.0, p.1, names-renamed_trees to 1 args h p.2)
    names-renamed to (cascade r ms) h p = (names-renamed (beyond 0 to) r (λ path. h (0 ∷ path)) p.0, names-renamed_messages to 1 ms h p.1)
    names-renamed to (assign n t) h p = (h [] n p.0, names-renamed (beyond 0 to) t (λ path. h (0 ∷ path)) p.1)
    names-renamed to (block ps ts ss e) h p = (p.0, p.1, names-renamed_statements to 0 ss h p.2)
    names-renamed to (brace ts) h p = names-renamed_trees to 0 ts h p
    names-renamed to (return t) h p = names-renamed (beyond 0 to) t (λ path. h (0 ∷ path)) p

    names-renamed_trees : (to : NewName N) (k : ℕ) (ts : TreesOf N) → ((path : List ℕ) (n : N) → P n → P (to path n)) → TreesNames P ts → TreesNames P (renamed_trees to k ts)
    names-renamed_trees to k no_trees h p = tt
    names-renamed_trees to k (more_trees t ts) h p = (names-renamed (beyond k to) t (λ path. h (k ∷ path)) p.0, names-renamed_trees to (suc k) ts h p.1)

    names-renamed_messages : (to : NewName N) (k : ℕ) (ms : MessagesOf N) → ((path : List ℕ) (n : N) → P n → P (to path n)) → MessagesNames P ms → MessagesNames P (renamed_messages to k ms)
    names-renamed_messages to k no_messages h p = tt
    names-renamed_messages to k (more_messages s args ms) h p = (p.0, names-renamed_trees to k args h p.1, names-renamed_messages to (k + count args) ms h p.2)

    pub names-renamed_statements : (to : NewName N) (k : ℕ) (ss : StatementsOf N) → ((path : List ℕ) (n : N) → P n → P (to path n)) → StatementsNames P ss → StatementsNames P (renamed_statements to k ss)
    names-renamed_statements to k no_statements h p = tt
    names-renamed_statements to k (more_statements c t ss) h p = (names-renamed (beyond k to) t (λ path. h (k ∷ path)) p.0, names-renamed_statements to (suc k) ss h p.1)

  -- selectors
  module _ (f : N → N) (h : (s : N) → P s → P (f s)) where
    mutual
      names-sends_anew : (t : TreeOf N) → AllNames P t → AllNames P (sends_anew f t)
      names-sends_anew (var n) p = p
      names-sends_anew (literal l) p = p
      names-sends_anew (send r s args) p = (names-sends_anew r p.0, h s p.1, names-trees_anew args p.2)
      names-sends_anew (cascade r ms) p = (names-sends_anew r p.0, names-messages_anew ms p.1)
      names-sends_anew (assign n t) p = (p.0, names-sends_anew t p.1)
      names-sends_anew (block ps ts ss e) p = (p.0, p.1, names-statements_anew ss p.2)
      names-sends_anew (brace ts) p = names-trees_anew ts p
      names-sends_anew (return t) p = names-sends_anew t p

      names-trees_anew : (ts : TreesOf N) → TreesNames P ts → TreesNames P (trees_anew f ts)
      names-trees_anew no_trees p = tt
      names-trees_anew (more_trees t ts) p = (names-sends_anew t p.0, names-trees_anew ts p.1)

      names-messages_anew : (ms : MessagesOf N) → MessagesNames P ms → MessagesNames P (messages_anew f ms)
      names-messages_anew no_messages p = tt
      names-messages_anew (more_messages s args ms) p = (h s p.0, names-trees_anew args p.1, names-messages_anew ms p.2)

      pub names-statements_anew : (ss : StatementsOf N) → StatementsNames P ss → StatementsNames P (statements_anew f ss)
      names-statements_anew no_statements p = tt
      names-statements_anew (more_statements c t ss) p = (names-sends_anew t p.0, names-statements_anew ss p.1)
