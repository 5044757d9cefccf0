-- A walk that changes no node changes nothing.
use Rattle.std.proofs.Common.{◌≡◌, ℕ, suc, ◌+◌, List, [], ◌∷◌, ◌∙◌, refl}
use Rattle.tree_model.specs.Tree.{TreeOf, var, literal, send, cascade, assign, block, brace, return, TreesOf, no_trees, more_trees, MessagesOf, no_messages, more_messages, StatementsOf, no_statements, more_statements}
use Rattle.tree_model.specs.Path.{count}
use Rattle.command_model.specs.Walk.{Making, onward, rebuilt, rebuilt_trees, rebuilt_messages, rebuilt_statements}

-- nothing is changed at any place
abbrev pub ChangesNothing : {N : Type 0} → Making N → Type 0
ChangesNothing {N} f = (path : List ℕ) (u : TreeOf N) → f path u ≡ u

mutual
  pub rebuilt-same : {N : Type 0} (f : Making N) → ChangesNothing f → (t : TreeOf N) → rebuilt f t ≡ t
  rebuilt-same f e (var n) = e [] (var n)
  rebuilt-same f e (literal l) = e [] (literal l)
  rebuilt-same f e (send r s args) =
      e [] (send (rebuilt (onward 0 f) r) s (rebuilt_trees f 1 args))
      ∙ (λ i. send (rebuilt-same (onward 0 f) (λ path u. e (0 ∷ path) u) r i) s (rebuilt_trees-same f e 1 args i))
  rebuilt-same f e (cascade r ms) =
      e [] (cascade (rebuilt (onward 0 f) r) (rebuilt_messages f 1 ms))
      ∙ (λ i. cascade (rebuilt-same (onward 0 f) (λ path u. e (0 ∷ path) u) r i) (rebuilt_messages-same f e 1 ms i))
  rebuilt-same f e (assign n t) =
      e [] (assign n (rebuilt (onward 0 f) t)) ∙ (λ i. assign n (rebuilt-same (onward 0 f) (λ path u. e (0 ∷ path) u) t i))
  rebuilt-same f e (block ps ts ss tail) =
      e [] (block ps ts (rebuilt_statements f 0 ss) tail) ∙ (λ i. block ps ts (rebuilt_statements-same f e 0 ss i) tail)
  rebuilt-same f e (brace ts) = e [] (brace (rebuilt_trees f 0 ts)) ∙ (λ i. brace (rebuilt_trees-same f e 0 ts i))
  rebuilt-same f e (return t) =
      e [] (return (rebuilt (onward 0 f) t)) ∙ (λ i. return (rebuilt-same (onward 0 f) (λ path u. e (0 ∷ path) u) t i))

  pub rebuilt_trees-same : {N : Type 0} (f : Making N) → ChangesNothing f → (k : ℕ) (ts : TreesOf N) → rebuilt_trees f k ts ≡ ts
  rebuilt_trees-same f e k no_trees = refl
  rebuilt_trees-same f e k (more_trees t ts) =
      λ i. more_trees (rebuilt-same (onward k f) (λ path u. e (k ∷ path) u) t i) (rebuilt_trees-same f e (suc k) ts i)

  rebuilt_messages-same : {N : Type 0} (f : Making N) → ChangesNothing f → (k : ℕ) (ms : MessagesOf N) → rebuilt_messages f k ms ≡ ms
  rebuilt_messages-same f e k no_messages = refl
  rebuilt_messages-same f e k (more_messages s args ms) =
      λ i. more_messages s (rebuilt_trees-same f e k args i) (rebuilt_messages-same f e (k + count args) ms i)

  pub rebuilt_statements-same : {N : Type 0} (f : Making N) → ChangesNothing f → (k : ℕ) (ss : StatementsOf N) → rebuilt_statements f k ss ≡ ss
  rebuilt_statements-same f e k no_statements = refl
  rebuilt_statements-same f e k (more_statements c t ss) =
      λ i. more_statements c (rebuilt-same (onward k f) (λ path u. e (k ∷ path) u) t i) (rebuilt_statements-same f e (suc k) ss i)
