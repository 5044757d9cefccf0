-- Code in which no name, or no selector, becomes another.
use Rattle.std.proofs.Common.{◌≡◌, ℕ, suc, ◌+◌, List, refl, ap, ◌∙◌}
use Rattle.tree_model.specs.Tree.{TreeOf, var, literal, send, cascade, assign, block, brace, return, TreesOf, no_trees, more_trees, MessagesOf, no_messages, more_messages, StatementsOf, no_statements, more_statements}
use Rattle.tree_model.specs.Path.{count}
use Rattle.rename_model.specs.Renamed.{renamed, renamed_trees, renamed_messages, renamed_statements}
use Rattle.rename_model.specs.SelectorRenamed.{sends_anew, trees_anew, messages_anew, statements_anew}

module _ {N : Type 0} where
  -- each name stays
  mutual
    renamed-kept : (t : TreeOf N) → renamed (λ path n. n) t ≡ t
    renamed-kept (var n) = refl
    renamed-kept (literal l) = refl
    renamed-kept (send r s args) = λ i. send (renamed-kept r i) s (renamed_trees-kept 1 args i)
    renamed-kept (cascade r ms) = λ i. cascade (renamed-kept r i) (renamed_messages-kept 1 ms i)
    renamed-kept (assign n t) = ap (assign n) (renamed-kept t)
    renamed-kept (block ps ts ss e) = λ i. block ps ts (renamed_statements-kept 0 ss i) e
    renamed-kept (brace ts) = ap brace (renamed_trees-kept 0 ts)
    renamed-kept (return t) = ap return (renamed-kept t)

    renamed_trees-kept : (k : ℕ) (ts : TreesOf N) → renamed_trees (λ path n. n) k ts ≡ ts
    renamed_trees-kept k no_trees = refl
    renamed_trees-kept k (more_trees t ts) = λ i. more_trees (renamed-kept t i) (renamed_trees-kept (suc k) ts i)

    renamed_messages-kept : (k : ℕ) (ms : MessagesOf N) → renamed_messages (λ path n. n) k ms ≡ ms
    renamed_messages-kept k no_messages = refl
    renamed_messages-kept k (more_messages s args ms) = λ i. more_messages s (renamed_trees-kept k args i) (renamed_messages-kept (k + count args) ms i)

    pub renamed_statements-kept : (k : ℕ) (ss : StatementsOf N) → renamed_statements (λ path n. n) k ss ≡ ss
    renamed_statements-kept k no_statements = refl
    renamed_statements-kept k (more_statements c t ss) = λ i. more_statements c (renamed-kept t i) (renamed_statements-kept (suc k) ss i)

  -- each selector stays
  mutual
    sends_anew-kept : (t : TreeOf N) → sends_anew (λ s. s) t ≡ t
    sends_anew-kept (var n) = refl
    sends_anew-kept (literal l) = refl
    sends_anew-kept (send r s args) = λ i. send (sends_anew-kept r i) s (trees_anew-kept args i)
    sends_anew-kept (cascade r ms) = λ i. cascade (sends_anew-kept r i) (messages_anew-kept ms i)
    sends_anew-kept (assign n t) = ap (assign n) (sends_anew-kept t)
    sends_anew-kept (block ps ts ss e) = λ i. block ps ts (statements_anew-kept ss i) e
    sends_anew-kept (brace ts) = ap brace (trees_anew-kept ts)
    sends_anew-kept (return t) = ap return (sends_anew-kept t)

    trees_anew-kept : (ts : TreesOf N) → trees_anew (λ s. s) ts ≡ ts
    trees_anew-kept no_trees = refl
    trees_anew-kept (more_trees t ts) = λ i. more_trees (sends_anew-kept t i) (trees_anew-kept ts i)

    messages_anew-kept : (ms : MessagesOf N) → messages_anew (λ s. s) ms ≡ ms
    messages_anew-kept no_messages = refl
    messages_anew-kept (more_messages s args ms) = λ i. more_messages s (trees_anew-kept args i) (messages_anew-kept ms i)

    pub statements_anew-kept : (ss : StatementsOf N) → statements_anew (λ s. s) ss ≡ ss
    statements_anew-kept no_statements = refl
    statements_anew-kept (more_statements c t ss) = λ i. more_statements c (sends_anew-kept t i) (statements_anew-kept ss i)
