-- Trees in which other selectors are sent: changed trees whose names stay, in which blocks declare what they declared.
use Rattle.std.proofs.Common.{◌≡◌, ℕ, zero, suc, ◌+◌, List, refl, sym, ap, ◌∙◌}
use Rattle.std.specs.Prelude.{map, option_map}
use Rattle.std.proofs.lemmas.List.{map-id}
use Rattle.tree_model.specs.Tree.{TreeOf, var, literal, send, cascade, assign, block, brace, return, TreesOf, no_trees, more_trees, MessagesOf, no_messages, more_messages, StatementsOf, no_statements, more_statements}
use Rattle.tree_model.specs.Path.{append, count, nth, all_arguments, statement_trees, children, child}
use Rattle.scope_model.specs.Scope.{ScopeOf, own_scope, scopes_round}
use Rattle.run_model.specs.Values.{Name}
use Rattle.mapped_model.specs.ChangedTrees.{NewNames, changed, changed_trees, changed_messages, changed_statements, changed_scope}
use Rattle.rename_model.specs.SelectorRenamed.{sends_anew, trees_anew, messages_anew, statements_anew}
use Rattle.rename_laws.proofs.Declarations.{declarations, round-same}

-- each name stays
abbrev pub kept_names : NewNames
kept_names path n = n

module _ (f : Name → Name) where
  mutual
    -- other selectors alone are a change of names in which names stay
    changed-anew : (t : TreeOf Name) → sends_anew f t ≡ changed kept_names f t
    changed-anew (var n) = refl
    changed-anew (literal l) = refl
    changed-anew (send r s args) = λ i. send (changed-anew r i) (f s) (changed-trees args 1 i)
    changed-anew (cascade r ms) = λ i. cascade (changed-anew r i) (changed-messages ms 1 i)
    changed-anew (assign n t) = ap (assign n) (changed-anew t)
    changed-anew (block ps ts ss e) = λ i. block (sym (map-id ps) i) (sym (map-id ts) i) (changed-lines ss 0 i) e
    changed-anew (brace ts) = ap brace (changed-trees ts 0)
    changed-anew (return t) = ap return (changed-anew t)

    changed-trees : (ts : TreesOf Name) (k : ℕ) → trees_anew f ts ≡ changed_trees kept_names f k ts
    changed-trees no_trees k = refl
    changed-trees (more_trees t ts) k = λ i. more_trees (changed-anew t i) (changed-trees ts (suc k) i)

    changed-messages : (ms : MessagesOf Name) (k : ℕ) → messages_anew f ms ≡ changed_messages kept_names f k ms
    changed-messages no_messages k = refl
    changed-messages (more_messages s args ms) k = λ i. more_messages (f s) (changed-trees args k i) (changed-messages ms (k + count args) i)

    changed-lines : (ss : StatementsOf Name) (k : ℕ) → statements_anew f ss ≡ changed_statements kept_names f k ss
    changed-lines no_statements k = refl
    changed-lines (more_statements c t ss) k = λ i. more_statements c (changed-anew t i) (changed-lines ss (suc k) i)

  -- a scope whose statements send other selectors
  abbrev pub scope_anew : ScopeOf Name → ScopeOf Name
  scope_anew s = record s { statements = statements_anew f s.statements }

  -- it is a changed scope
  pub changed-scope_anew : (s : ScopeOf Name) → scope_anew s ≡ changed_scope kept_names f s
  changed-scope_anew s = λ i. record { arguments = sym (map-id s.arguments) i; temporaries = sym (map-id s.temporaries) i; statements = changed-lines s.statements 0 i }

  -- the arguments of messages
  append-anew : (ts us : TreesOf Name) → trees_anew f (append ts us) ≡ append (trees_anew f ts) (trees_anew f us)
  append-anew no_trees us = refl
  append-anew (more_trees t ts) us = ap (more_trees (sends_anew f t)) (append-anew ts us)

  arguments-anew : (ms : MessagesOf Name) → all_arguments (messages_anew f ms) ≡ trees_anew f (all_arguments ms)
  arguments-anew no_messages = refl
  arguments-anew (more_messages s args ms) = ap (append (trees_anew f args)) (arguments-anew ms) ∙ sym (append-anew args (all_arguments ms))

  -- the nodes of statements
  lines-anew : (ss : StatementsOf Name) → statement_trees (statements_anew f ss) ≡ trees_anew f (statement_trees ss)
  lines-anew no_statements = refl
  lines-anew (more_statements c t ss) = ap (more_trees (sends_anew f t)) (lines-anew ss)

  -- the nodes right below a node
  children-anew : (t : TreeOf Name) → children (sends_anew f t) ≡ trees_anew f (children t)
  children-anew (var n) = refl
  children-anew (literal l) = refl
  children-anew (send r s args) = refl
  children-anew (cascade r ms) = ap (more_trees (sends_anew f r)) (arguments-anew ms)
  children-anew (assign n t) = refl
  children-anew (block ps ts ss e) = lines-anew ss
  children-anew (brace ts) = refl
  children-anew (return t) = refl

  -- the tree of a number
  nth-anew : (ts : TreesOf Name) (k : ℕ) → nth (trees_anew f ts) k ≡ option_map (sends_anew f) (nth ts k)
  nth-anew no_trees k = refl
  nth-anew (more_trees t ts) zero = refl
  nth-anew (more_trees t ts) (suc k) = nth-anew ts k

  -- where a step leads
  child-anew : (t : TreeOf Name) (k : ℕ) → child (sends_anew f t) k ≡ option_map (sends_anew f) (child t k)
  child-anew t k = ap (λ ts. nth ts k) (children-anew t) ∙ nth-anew (children t) k

  -- what a block declares
  block-anew : (d : ℕ) (t : TreeOf Name) → map declarations (own_scope d (sends_anew f t)) ≡ map declarations (own_scope d t)
  block-anew d (var n) = refl
  block-anew d (literal l) = refl
  block-anew d (send r s args) = refl
  block-anew d (cascade r ms) = refl
  block-anew d (assign n t) = refl
  block-anew d (block ps ts ss e) = refl
  block-anew d (brace ts) = refl
  block-anew d (return t) = refl

  -- what the scopes round a place declare
  pub round-anew : (s : ScopeOf Name) (path : List ℕ) → map declarations (scopes_round (scope_anew s) path) ≡ map declarations (scopes_round s path)
  round-anew s path =
      round-same (λ (x : Unit {0}) t. sends_anew f t) (λ x k. x) (λ x t k. child-anew t k) (λ x d t. block-anew d t) (λ k. tt) s (scope_anew s) refl
      (λ k. ap (λ ts. nth ts k) (lines-anew s.statements) ∙ nth-anew (statement_trees s.statements) k) path
