-- The tree of a pattern, kind by kind.
use Rattle.std.proofs.Common.{◌≡◌, ℕ, List, map, sym, ap, ◌∙◌}
use Rattle.std.specs.Prelude.{Result, IfOk}
use Rattle.std.proofs.lemmas.Result.{IfOk-weaker}
use Rattle.rb_base.specs.declared.Memory.{Memory}
use Rattle.tree_model.specs.Tree.{Notes, TreeOf, trees_of, send, cascade, block, brace}
use Rattle.st_tree.specs.View.{messages_of, statements_of}
use Rattle.pattern_model.specs.Patterns.{PatternOf, send_like, cascade_like, block_like, brace_like}
use Rattle.patterns.specs.View.{selector_of, patterns_of, messages_from, statements_from}
use Rattle.patterns.specs.declared.tree.PatternMessage.{PatternMessage}
use Rattle.patterns.specs.declared.tree.PatternStatement.{PatternStatement}
use Rattle.derivations.specs.Numbered.{Table, selector_number, numbered, message_in, statement_in, sent}
use Rattle.derivations.proofs.Trees.{trees_are, messages_are, statements_are}

module _ (table : Table) (p : PatternOf ℕ) where
  pub of_send : (r : PatternOf ℕ) (m : PatternMessage) → p ≡ send_like r (selector_of m.selector) (patterns_of m.arguments.items) → (res : Result (TreeOf ℕ) Memory)
      → IfOk res (λ t. t ≡ sent (numbered table r) (message_in table m)) → IfOk res (λ t. t ≡ numbered table p)
  of_send r m is res h =
      IfOk-weaker res (λ t. t ≡ sent (numbered table r) (message_in table m)) (λ t. t ≡ numbered table p)
      (λ t e. e ∙ ap (send (numbered table r) (selector_number table (selector_of m.selector))) (trees_are table m.arguments.items) ∙ ap (numbered table) (sym is)) h

  pub of_cascade : (r : PatternOf ℕ) (ms : List PatternMessage) → p ≡ cascade_like r (messages_from ms) → (res : Result (TreeOf ℕ) Memory)
      → IfOk res (λ t. t ≡ cascade (numbered table r) (messages_of (map (message_in table) ms))) → IfOk res (λ t. t ≡ numbered table p)
  of_cascade r ms is res h =
      IfOk-weaker res (λ t. t ≡ cascade (numbered table r) (messages_of (map (message_in table) ms))) (λ t. t ≡ numbered table p)
      (λ t e. e ∙ ap (cascade (numbered table r)) (messages_are table ms) ∙ ap (numbered table) (sym is)) h

  pub of_block : (ps ts : List ℕ) (ss : List PatternStatement) (end : Notes) → p ≡ block_like ps ts (statements_from ss) end → (res : Result (TreeOf ℕ) Memory)
      → IfOk res (λ t. t ≡ block ps ts (statements_of (map (statement_in table) ss)) end) → IfOk res (λ t. t ≡ numbered table p)
  of_block ps ts ss end is res h =
      IfOk-weaker res (λ t. t ≡ block ps ts (statements_of (map (statement_in table) ss)) end) (λ t. t ≡ numbered table p)
      (λ t e. e ∙ (λ i. block ps ts (statements_are table ss i) end) ∙ ap (numbered table) (sym is)) h

  pub of_brace : (ps : List (PatternOf ℕ)) (ts : List (TreeOf ℕ)) → p ≡ brace_like (patterns_of ps) → ts ≡ map (numbered table) ps → brace (trees_of ts) ≡ numbered table p
  of_brace ps ts is e = ap (λ (us : List (TreeOf ℕ)). brace (trees_of us)) e ∙ ap brace (trees_are table ps) ∙ ap (numbered table) (sym is)
