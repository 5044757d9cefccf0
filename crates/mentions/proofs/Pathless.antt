-- The nodes of a tree without their paths are its nodes.
use Rattle.std.proofs.Common.{◌≡◌, ℕ, ◌+◌, List, ◌∷◌, ◌++◌, refl, ap, ◌∙◌}
use Rattle.std.proofs.lemmas.List.{map-append}
use Rattle.std.proofs.lemmas.Simd.{map-map}
use Rattle.tree_model.specs.Tree.{TreeOf, var, literal, send, cascade, assign, block, brace, return, TreesOf, no_trees, more_trees, MessagesOf, no_messages, more_messages, StatementsOf, no_statements, more_statements, SequenceOf}
use Rattle.tree_model.specs.Path.{count}
use Rattle.tree_model.specs.Nodes.{Placed, below_step, tree_nodes, trees_nodes, messages_nodes, statements_nodes, nodes}
use Rattle.mentions.specs.Mentions.{trees_of_nodes}
use Rattle.mentions.specs.NodeLists.{nodes_in_tree, nodes_in_trees, nodes_in_messages, nodes_in_statements}

module _ {N : Type 0} where
  -- one step deeper
  trees-below_step : (k : ℕ) (es : List (Placed N)) → trees_of_nodes (below_step k es) ≡ trees_of_nodes es
  trees-below_step k es = map-map (λ (e : Placed N). e.1) (λ (e : Placed N). (k ∷ e.0, e.1)) es

  -- one step deeper, before other nodes
  trees-below_step_append : (k : ℕ) (ds es : List (Placed N)) (ts us : List (TreeOf N)) → trees_of_nodes ds ≡ ts → trees_of_nodes es ≡ us → trees_of_nodes (below_step k ds ++ es) ≡ ts ++ us
  trees-below_step_append k ds es ts us p q =
      map-append (λ (e : Placed N). e.1) (below_step k ds) es ∙ (λ i. (trees-below_step k ds ∙ p) i ++ q i)

  -- of a tree
  mutual
    trees-tree_nodes : (t : TreeOf N) → trees_of_nodes (tree_nodes t) ≡ nodes_in_tree t
    trees-tree_nodes (var n) = refl
    trees-tree_nodes (literal l) = refl
    trees-tree_nodes (send r s args) =
        ap (λ (ts : List (TreeOf N)). send r s args ∷ ts) (trees-below_step_append 0 (tree_nodes r) (trees_nodes 1 args) _ _ (trees-tree_nodes r) (trees-trees_nodes 1 args))
    trees-tree_nodes (cascade r ms) =
        ap (λ (ts : List (TreeOf N)). cascade r ms ∷ ts) (trees-below_step_append 0 (tree_nodes r) (messages_nodes 1 ms) _ _ (trees-tree_nodes r) (trees-messages_nodes 1 ms))
    trees-tree_nodes (assign n t) = ap (λ (ts : List (TreeOf N)). assign n t ∷ ts) (trees-below_step 0 (tree_nodes t) ∙ trees-tree_nodes t)
    trees-tree_nodes (block ps ts ss e) = ap (λ (us : List (TreeOf N)). block ps ts ss e ∷ us) (trees-statements_nodes 0 ss)
    trees-tree_nodes (brace ts) = ap (λ (us : List (TreeOf N)). brace ts ∷ us) (trees-trees_nodes 0 ts)
    trees-tree_nodes (return t) = ap (λ (ts : List (TreeOf N)). return t ∷ ts) (trees-below_step 0 (tree_nodes t) ∙ trees-tree_nodes t)

    trees-trees_nodes : (k : ℕ) (ts : TreesOf N) → trees_of_nodes (trees_nodes k ts) ≡ nodes_in_trees ts
    trees-trees_nodes k no_trees = refl
    trees-trees_nodes k (more_trees t ts) = trees-below_step_append k (tree_nodes t) (trees_nodes (k + 1) ts) _ _ (trees-tree_nodes t) (trees-trees_nodes (k + 1) ts)

    trees-messages_nodes : (k : ℕ) (ms : MessagesOf N) → trees_of_nodes (messages_nodes k ms) ≡ nodes_in_messages ms
    trees-messages_nodes k no_messages = refl
    trees-messages_nodes k (more_messages s args ms) =
        map-append (λ (e : Placed N). e.1) (trees_nodes k args) (messages_nodes (k + count args) ms)
        ∙ (λ i. trees-trees_nodes k args i ++ trees-messages_nodes (k + count args) ms i)

    trees-statements_nodes : (k : ℕ) (ss : StatementsOf N) → trees_of_nodes (statements_nodes k ss) ≡ nodes_in_statements ss
    trees-statements_nodes k no_statements = refl
    trees-statements_nodes k (more_statements c t ss) = trees-below_step_append k (tree_nodes t) (statements_nodes (k + 1) ss) _ _ (trees-tree_nodes t) (trees-statements_nodes (k + 1) ss)

  -- of a sequence
  pub trees-nodes : (b : SequenceOf N) → trees_of_nodes (nodes b) ≡ nodes_in_statements b.statements
  trees-nodes b = trees-statements_nodes 0 b.statements
