-- The nodes of a tree with places stand in the order of the tree without places, with the same paths.
use Rattle.std.proofs.Common.{◌≡◌, ℕ, suc, ◌+◌, arith, List, [], ◌∷◌, ◌++◌, map, append_assoc, refl, ap, sym, ◌∙◌}
use Rattle.std.proofs.lemmas.List.{append-nil, map-append}
use Rattle.tree_model.specs.Path.{count}
use Rattle.tree_model.specs.Nodes as plain
use Rattle.tree_model.specs.Nodes.{Placed, below_step}
use Rattle.grammar_model.specs.Terminal.{Text}
use Rattle.grammar_model.specs.Spanned.{SpannedTree, Var, Literal, Send, Cascade, Assign, Block, Brace, Return, SpannedTrees, NoTrees, MoreTrees, SpannedMessages, NoMessages, MoreMessages, SpannedStatements, NoStatements, MoreStatements, plain_tree, plain_trees, plain_messages, plain_statements}
use Rattle.parse_events.specs.Found.{count_trees}
use Rattle.event_spans.specs.Nodes.{Reached, tree_nodes, trees_nodes, messages_nodes, statements_nodes}

-- the paths alone
abbrev pub paths : List Reached → List (List ℕ)
paths = map (λ (r : Reached). r.0)

-- the paths behind a beginning
abbrev pub paths_behind : List ℕ → List (Placed Text) → List (List ℕ)
paths_behind start = map (λ (e : Placed Text). start ++ e.0)

-- as many trees without places
count-plain : (ts : SpannedTrees) → count (plain_trees ts) ≡ count_trees ts
count-plain NoTrees = refl
count-plain (MoreTrees t ts) = omega (arith, count-plain ts)

-- one step deeper
under : (start : List ℕ) (k : ℕ) (es : List (Placed Text)) → paths_behind (start ++ k ∷ []) es ≡ paths_behind start (below_step k es)
under start k [] = refl
under start k (e ∷ es) =
    ap (λ (xs : List (List ℕ)). ((start ++ k ∷ []) ++ e.0) ∷ xs) (under start k es) ∙ ap (λ (p : List ℕ). p ∷ paths_behind start (below_step k es)) (append_assoc start (k ∷ []) e.0)

-- a node of a number before others
joined : (start : List ℕ) (k : ℕ) (rs qs : List Reached) (es fs : List (Placed Text)) → paths rs ≡ paths_behind (start ++ k ∷ []) es → paths qs ≡ paths_behind start fs → paths (rs ++ qs) ≡ paths_behind start (below_step k es ++ fs)
joined start k rs qs es fs p q =
    map-append (λ (r : Reached). r.0) rs qs
    ∙ ap (λ (xs : List (List ℕ)). xs ++ paths qs) (p ∙ under start k es)
    ∙ ap (λ (xs : List (List ℕ)). paths_behind start (below_step k es) ++ xs) q
    ∙ sym (map-append (λ (e : Placed Text). start ++ e.0) (below_step k es) fs)

-- nodes before others
both : (start : List ℕ) (rs qs : List Reached) (es fs : List (Placed Text)) → paths rs ≡ paths_behind start es → paths qs ≡ paths_behind start fs → paths (rs ++ qs) ≡ paths_behind start (es ++ fs)
both start rs qs es fs p q =
    map-append (λ (r : Reached). r.0) rs qs
    ∙ ap (λ (xs : List (List ℕ)). xs ++ paths qs) p
    ∙ ap (λ (xs : List (List ℕ)). paths_behind start es ++ xs) q
    ∙ sym (map-append (λ (e : Placed Text). start ++ e.0) es fs)

-- a node before those in it
headed : (start : List ℕ) (rs : List Reached) (es : List (Placed Text)) → paths rs ≡ paths_behind start es → start ∷ paths rs ≡ (start ++ []) ∷ paths_behind start es
headed start rs es p = ap (λ (xs : List (List ℕ)). start ∷ xs) p ∙ ap (λ (q : List ℕ). q ∷ paths_behind start es) (sym (append-nil start))

mutual
  -- the paths of the nodes of a tree
  paths_tree : (t : SpannedTree) (start : List ℕ) → paths (tree_nodes start t) ≡ paths_behind start (plain.tree_nodes (plain_tree t))
  paths_tree (Var f e n) start = headed start [] [] refl
  paths_tree (Literal f e l) start = headed start [] [] refl
  paths_tree (Send f e r s xs) start = headed start _ _ (joined start 0 _ _ _ _ (paths_tree r (start ++ 0 ∷ [])) (paths_trees xs start 1))
  paths_tree (Cascade f e r ms) start = headed start _ _ (joined start 0 _ _ _ _ (paths_tree r (start ++ 0 ∷ [])) (paths_messages ms start 1))
  paths_tree (Assign f e n t) start = headed start _ _ (paths_tree t (start ++ 0 ∷ []) ∙ under start 0 _)
  paths_tree (Block f e ps ds ss c) start = headed start _ _ (paths_statements ss start 0)
  paths_tree (Brace f e ts) start = headed start _ _ (paths_trees ts start 0)
  paths_tree (Return f e t) start = headed start _ _ (paths_tree t (start ++ 0 ∷ []) ∙ under start 0 _)

  -- those of trees
  paths_trees : (ts : SpannedTrees) (start : List ℕ) (k : ℕ) → paths (trees_nodes start k ts) ≡ paths_behind start (plain.trees_nodes k (plain_trees ts))
  paths_trees NoTrees start k = refl
  paths_trees (MoreTrees t ts) start k =
      let e : suc k ≡ k + 1 = omega arith in
      joined start k _ _ _ _ (paths_tree t (start ++ k ∷ [])) (paths_trees ts start (suc k) ∙ ap (λ n. paths_behind start (plain.trees_nodes n (plain_trees ts))) e)

  -- those of messages
  paths_messages : (ms : SpannedMessages) (start : List ℕ) (k : ℕ) → paths (messages_nodes start k ms) ≡ paths_behind start (plain.messages_nodes k (plain_messages ms))
  paths_messages NoMessages start k = refl
  paths_messages (MoreMessages s xs ms) start k =
      let e : count_trees xs + k ≡ k + count (plain_trees xs) = omega (arith, count-plain xs) in
      both start _ _ _ _ (paths_trees xs start k) (paths_messages ms start (count_trees xs + k) ∙ ap (λ n. paths_behind start (plain.messages_nodes n (plain_messages ms))) e)

  -- those of statements
  pub paths_statements : (ss : SpannedStatements) (start : List ℕ) (k : ℕ) → paths (statements_nodes start k ss) ≡ paths_behind start (plain.statements_nodes k (plain_statements ss))
  paths_statements NoStatements start k = refl
  paths_statements (MoreStatements c f t ss) start k =
      let e : suc k ≡ k + 1 = omega arith in
      joined start k _ _ _ _ (paths_tree t (start ++ k ∷ [])) (paths_statements ss start (suc k) ∙ ap (λ n. paths_behind start (plain.statements_nodes n (plain_statements ss))) e)
