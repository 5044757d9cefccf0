-- What the walk lists are all nodes.
use Rattle.std.proofs.Common.{◌≡◌, ℕ, ◌+◌, List, [], ◌∷◌, ◌++◌, map, refl, sym, ap, ◌∙◌, append_assoc}
use Rattle.std.proofs.lemmas.List.{append-nil, map-append}
use Rattle.tree_model.specs.Tree.{TreeOf, var, literal, send, cascade, assign, block, brace, return, TreesOf, no_trees, more_trees, MessagesOf, no_messages, more_messages, StatementsOf, no_statements, more_statements}
use Rattle.tree_model.specs.Path.{count}
use Rattle.tree_model.specs.Nodes.{Placed, below_step, tree_nodes, trees_nodes, messages_nodes, statements_nodes}
use Rattle.placed_nodes.specs.Placing.{in_tree, in_trees, in_messages, in_statements}

-- the nodes behind a path
abbrev behind : List ℕ → List (Placed ℕ) → List (Placed ℕ)
behind p es = map (λ (e : Placed ℕ). (p ++ e.0, e.1)) es

behind-append : (p : List ℕ) (xs ys : List (Placed ℕ)) → behind p (xs ++ ys) ≡ behind p xs ++ behind p ys
behind-append p xs ys = map-append (λ (e : Placed ℕ). (p ++ e.0, e.1)) xs ys

behind-step : (p : List ℕ) (k : ℕ) (es : List (Placed ℕ)) → behind p (below_step k es) ≡ behind (p ++ k ∷ []) es
behind-step p k [] = refl
behind-step p k (e ∷ es) = λ j. (sym (append_assoc p (k ∷ []) e.0) j, e.1) ∷ behind-step p k es j

behind-first : (p : List ℕ) (t : TreeOf ℕ) (us es : List (Placed ℕ)) → us ≡ behind p es → ((p, t) ∷ []) ++ us ≡ behind p (([], t) ∷ es)
behind-first p t us es e = λ j. (sym (append-nil p) j, t) ∷ e j

-- one step further, and then others
stepped : (p : List ℕ) (k : ℕ) (xs ys us vs : List (Placed ℕ)) → us ≡ behind (p ++ k ∷ []) xs → vs ≡ behind p ys → us ++ vs ≡ behind p (below_step k xs ++ ys)
stepped p k xs ys us vs e f = (λ j. e j ++ f j) ∙ (λ j. sym (behind-step p k xs) j ++ behind p ys) ∙ sym (behind-append p (below_step k xs) ys)

mutual
  tree-behind : (p : List ℕ) (t : TreeOf ℕ) → in_tree p t ≡ behind p (tree_nodes t)
  tree-behind p (var n) = behind-first p (var n) [] [] refl
  tree-behind p (literal l) = behind-first p (literal l) [] [] refl
  tree-behind p (send r s args) =
      behind-first p (send r s args) _ (below_step 0 (tree_nodes r) ++ trees_nodes 1 args)
      (stepped p 0 (tree_nodes r) (trees_nodes 1 args) _ _ (tree-behind (p ++ 0 ∷ []) r) (trees-behind p 1 args))
  tree-behind p (cascade r ms) =
      behind-first p (cascade r ms) _ (below_step 0 (tree_nodes r) ++ messages_nodes 1 ms)
      (stepped p 0 (tree_nodes r) (messages_nodes 1 ms) _ _ (tree-behind (p ++ 0 ∷ []) r) (messages-behind p 1 ms))
  tree-behind p (assign n t) = behind-first p (assign n t) _ (below_step 0 (tree_nodes t)) (tree-behind (p ++ 0 ∷ []) t ∙ sym (behind-step p 0 (tree_nodes t)))
  tree-behind p (block ps ts ss e) = behind-first p (block ps ts ss e) _ (statements_nodes 0 ss) (statements-behind p 0 ss)
  tree-behind p (brace ts) = behind-first p (brace ts) _ (trees_nodes 0 ts) (trees-behind p 0 ts)
  tree-behind p (return t) = behind-first p (return t) _ (below_step 0 (tree_nodes t)) (tree-behind (p ++ 0 ∷ []) t ∙ sym (behind-step p 0 (tree_nodes t)))

  trees-behind : (p : List ℕ) (k : ℕ) (ts : TreesOf ℕ) → in_trees p k ts ≡ behind p (trees_nodes k ts)
  trees-behind p k no_trees = refl
  trees-behind p k (more_trees t ts) = stepped p k (tree_nodes t) (trees_nodes (k + 1) ts) _ _ (tree-behind (p ++ k ∷ []) t) (trees-behind p (k + 1) ts)

  messages-behind : (p : List ℕ) (k : ℕ) (ms : MessagesOf ℕ) → in_messages p k ms ≡ behind p (messages_nodes k ms)
  messages-behind p k no_messages = refl
  messages-behind p k (more_messages s args ms) =
      (λ j. trees-behind p k args j ++ messages-behind p (k + count args) ms j) ∙ sym (behind-append p (trees_nodes k args) (messages_nodes (k + count args) ms))

  statements-behind : (p : List ℕ) (k : ℕ) (ss : StatementsOf ℕ) → in_statements p k ss ≡ behind p (statements_nodes k ss)
  statements-behind p k no_statements = refl
  statements-behind p k (more_statements c t ss) = stepped p k (tree_nodes t) (statements_nodes (k + 1) ss) _ _ (tree-behind (p ++ k ∷ []) t) (statements-behind p (k + 1) ss)

-- behind no path
same-nodes : (es : List (Placed ℕ)) → map (λ (e : Placed ℕ). ([] ++ e.0, e.1)) es ≡ es
same-nodes [] = refl
same-nodes (e ∷ es) = ap (λ (fs : List (Placed ℕ)). e ∷ fs) (same-nodes es)

pub all-nodes : (ss : StatementsOf ℕ) → in_statements [] 0 ss ≡ statements_nodes 0 ss
all-nodes ss = statements-behind [] 0 ss ∙ same-nodes (statements_nodes 0 ss)
