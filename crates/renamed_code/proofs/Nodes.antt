-- What stands in code stands in one of its nodes.
use Rattle.std.proofs.Common.{◌≡◌, ℕ, ◌+◌, Bool, true, false, ◌||◌, List, [], ◌∷◌, ◌++◌, refl, sym, ap, ◌∙◌}
use Rattle.std.proofs.Math.Bool.{or_assoc}
use Rattle.std.specs.List.{list_any}
use Rattle.std.specs.Option.{option_map_or}
use Rattle.std.proofs.lemmas.List.Folds.{list_any-append}
use Rattle.tree_model.specs.Tree.{TreeOf, var, literal, send, cascade, assign, block, brace, return, TreesOf, no_trees, more_trees, MessagesOf, no_messages, more_messages, StatementsOf, no_statements, more_statements}
use Rattle.tree_model.specs.Path.{count}
use Rattle.tree_model.specs.Nodes.{Placed, below_step, tree_nodes, trees_nodes, messages_nodes, statements_nodes}
use Rattle.image_model.specs.Uses.{name_used}
use Rattle.rename_model.specs.Conditions.{has_message_that, sends_one_that}
use Rattle.renamed_code.specs.Standing.{beneath, stands_in, stands_in_trees, stands_in_messages, stands_in_statements}

-- tests in another order
pub or-false : (a : Bool) → (a || false) ≡ a
or-false true = refl
or-false false = refl

or-swap : (a b c : Bool) → (a || (b || c)) ≡ (b || (a || c))
or-swap true true c = refl
or-swap true false c = refl
or-swap false b c = refl

or-four : (a b c d : Bool) → ((a || b) || (c || d)) ≡ (a || (c || (b || d)))
or-four true b c d = refl
or-four false b c d = or-swap b c d

-- two tests that answer alike at each item
pub list_any-alike : {X : Type 0} (p q : X → Bool) (xs : List X) → ((x : X) → p x ≡ q x) → list_any p xs ≡ list_any q xs
list_any-alike p q [] e = refl
list_any-alike p q (x ∷ xs) e = λ i. e x i || list_any-alike p q xs e i

module _ {N : Type 0} (sent : N → Bool) where
  -- whether a node with its path reads or assigns a name that passes the one test, or sends a selector that passes the other
  abbrev pub passes : (List ℕ → N → Bool) → Placed N → Bool
  passes named e = option_map_or (λ n. named e.0 n) (name_used e.1) false || sends_one_that sent e.1

  -- a step deeper
  below : (named : List ℕ → N → Bool) (k : ℕ) (es : List (Placed N)) → list_any (passes named) (below_step k es) ≡ list_any (passes (beneath (k ∷ []) named)) es
  below named k [] = refl
  below named k (e ∷ es) = ap (λ (b : Bool). passes (beneath (k ∷ []) named) e || b) (below named k es)

  -- in a node one step deeper, and in others
  deeper : (named : List ℕ → N → Bool) (k : ℕ) (t : TreeOf N) (es : List (Placed N)) (c d : Bool) → list_any (passes (beneath (k ∷ []) named)) (tree_nodes t) ≡ c → list_any (passes named) es ≡ d
      → list_any (passes named) (below_step k (tree_nodes t) ++ es) ≡ (c || d)
  deeper named k t es c d p q =
      list_any-append (passes named) (below_step k (tree_nodes t)) es ∙ (λ i. (below named k (tree_nodes t) ∙ p) i || q i)

  mutual
    standing-tree : (named : List ℕ → N → Bool) (t : TreeOf N) → list_any (passes named) (tree_nodes t) ≡ stands_in sent named t
    standing-tree named (var n) = or-false (named [] n || false) ∙ or-false (named [] n)
    standing-tree named (literal l) = refl
    standing-tree named (send r s args) = ap (λ (b : Bool). sent s || b) (deeper named 0 r (trees_nodes 1 args) _ _ (standing-tree (beneath (0 ∷ []) named) r) (standing-trees named 1 args))
    standing-tree named (cascade r ms) =
        ap (λ (b : Bool). has_message_that sent ms || b) (deeper named 0 r (messages_nodes 1 ms) _ _ (standing-tree (beneath (0 ∷ []) named) r) refl)
        ∙ or-swap (has_message_that sent ms) (stands_in sent (beneath (0 ∷ []) named) r) (list_any (passes named) (messages_nodes 1 ms))
        ∙ ap (λ (b : Bool). stands_in sent (beneath (0 ∷ []) named) r || b) (standing-messages named 1 ms)
    standing-tree named (assign n t) = λ i. or-false (named [] n) i || (below named 0 (tree_nodes t) ∙ standing-tree (beneath (0 ∷ []) named) t) i
    standing-tree named (block ps ts ss e) = standing-statements named 0 ss
    standing-tree named (brace ts) = standing-trees named 0 ts
    standing-tree named (return t) = below named 0 (tree_nodes t) ∙ standing-tree (beneath (0 ∷ []) named) t

    standing-trees : (named : List ℕ → N → Bool) (k : ℕ) (ts : TreesOf N) → list_any (passes named) (trees_nodes k ts) ≡ stands_in_trees sent named k ts
    standing-trees named k no_trees = refl
    standing-trees named k (more_trees t ts) = deeper named k t (trees_nodes (k + 1) ts) _ _ (standing-tree (beneath (k ∷ []) named) t) (standing-trees named (k + 1) ts)

    -- the messages of a cascade, with their selectors
    standing-messages : (named : List ℕ → N → Bool) (k : ℕ) (ms : MessagesOf N) → (has_message_that sent ms || list_any (passes named) (messages_nodes k ms)) ≡ stands_in_messages sent named k ms
    standing-messages named k no_messages = refl
    standing-messages named k (more_messages s args ms) =
        ap (λ (b : Bool). (sent s || has_message_that sent ms) || b) (list_any-append (passes named) (trees_nodes k args) (messages_nodes (k + count args) ms))
        ∙ or-four (sent s) (has_message_that sent ms) (list_any (passes named) (trees_nodes k args)) (list_any (passes named) (messages_nodes (k + count args) ms))
        ∙ (λ i. sent s || (standing-trees named k args i || standing-messages named (k + count args) ms i))

    pub standing-statements : (named : List ℕ → N → Bool) (k : ℕ) (ss : StatementsOf N) → list_any (passes named) (statements_nodes k ss) ≡ stands_in_statements sent named k ss
    standing-statements named k no_statements = refl
    standing-statements named k (more_statements c t ss) = deeper named k t (statements_nodes (k + 1) ss) _ _ (standing-tree (beneath (k ∷ []) named) t) (standing-statements named (k + 1) ss)
