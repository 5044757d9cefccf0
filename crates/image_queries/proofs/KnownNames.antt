-- All nodes of a sequence whose names have a property have names with it; and the marks of nodes are those of the list of nodes.
use Rattle.std.proofs.Common.{◌≡◌, ℕ, ◌+◌, Bool, List, [], ◌∷◌, ◌++◌, map, refl, ap, ◌∙◌}
use Rattle.std.specs.List.{AllByRecursion}
use Rattle.std.proofs.lemmas.List.{map-append}
use Rattle.tree_model.specs.Tree.{TreeOf, var, literal, send, cascade, assign, block, brace, return, TreesOf, no_trees, more_trees, MessagesOf, no_messages, more_messages, StatementsOf, no_statements, more_statements, SequenceOf}
use Rattle.tree_model.specs.AllNames.{AllNames, TreesNames, MessagesNames, StatementsNames, SequenceNames}
use Rattle.tree_model.specs.Path.{count}
use Rattle.tree_model.specs.Nodes.{Placed, below_step, tree_nodes, trees_nodes, messages_nodes, statements_nodes, nodes}
use Rattle.image_queries.specs.Marks.{tree_marks, trees_marks, messages_marks, statements_marks}
use Rattle.image_queries.proofs.Lists.{all-append}

module _ {N : Type 0} (P : N → Type 0) where
  -- each name in a node has the property
  abbrev Known : Placed N → Type 0
  Known e = AllNames P e.1

  -- one step deeper
  known-below : (k : ℕ) (es : List (Placed N)) → AllByRecursion Known es → AllByRecursion Known (below_step k es)
  known-below k [] a = tt
  known-below k (e ∷ es) a = (a.0, known-below k es a.1)

  mutual
    -- of a tree
    known-tree : (t : TreeOf N) → AllNames P t → AllByRecursion Known (tree_nodes t)
    known-tree (var n) p = (p, tt)
    known-tree (literal l) p = (p, tt)
    known-tree (send r s args) p = (p, all-append Known (below_step 0 (tree_nodes r)) (trees_nodes 1 args) (known-below 0 (tree_nodes r) (known-tree r p.0)) (known-trees 1 args p.2))
    known-tree (cascade r ms) p = (p, all-append Known (below_step 0 (tree_nodes r)) (messages_nodes 1 ms) (known-below 0 (tree_nodes r) (known-tree r p.0)) (known-messages 1 ms p.1))
    known-tree (assign n t) p = (p, known-below 0 (tree_nodes t) (known-tree t p.1))
    known-tree (block ps ts ss e) p = (p, known-statements 0 ss p.2)
    known-tree (brace ts) p = (p, known-trees 0 ts p)
    known-tree (return t) p = (p, known-below 0 (tree_nodes t) (known-tree t p))

    -- of trees
    known-trees : (k : ℕ) (ts : TreesOf N) → TreesNames P ts → AllByRecursion Known (trees_nodes k ts)
    known-trees k no_trees p = tt
    known-trees k (more_trees t ts) p = all-append Known (below_step k (tree_nodes t)) (trees_nodes (k + 1) ts) (known-below k (tree_nodes t) (known-tree t p.0)) (known-trees (k + 1) ts p.1)

    -- of messages
    known-messages : (k : ℕ) (ms : MessagesOf N) → MessagesNames P ms → AllByRecursion Known (messages_nodes k ms)
    known-messages k no_messages p = tt
    known-messages k (more_messages s args ms) p = all-append Known (trees_nodes k args) (messages_nodes (k + count args) ms) (known-trees k args p.1) (known-messages (k + count args) ms p.2)

    -- of statements
    known-statements : (k : ℕ) (ss : StatementsOf N) → StatementsNames P ss → AllByRecursion Known (statements_nodes k ss)
    known-statements k no_statements p = tt
    known-statements k (more_statements c t ss) p = all-append Known (below_step k (tree_nodes t)) (statements_nodes (k + 1) ss) (known-below k (tree_nodes t) (known-tree t p.0)) (known-statements (k + 1) ss p.1)

  -- of a sequence
  pub known-nodes : (b : SequenceOf N) → SequenceNames P b → AllByRecursion (λ (e : Placed N). AllNames P e.1) (nodes b)
  known-nodes b p = known-statements 0 b.statements p.statements

module _ (test : TreeOf ℕ → Bool) where
  -- what a test answers at nodes
  abbrev pub answers : List (Placed ℕ) → List Bool
  answers es = map (λ (e : Placed ℕ). test e.1) es

  -- one step deeper
  answers-below : (k : ℕ) (es : List (Placed ℕ)) → answers (below_step k es) ≡ answers es
  answers-below k [] = refl
  answers-below k (e ∷ es) = ap (λ (bs : List Bool). test e.1 ∷ bs) (answers-below k es)

  -- of two lists, the first one step deeper
  answers-joined : (k : ℕ) (es fs : List (Placed ℕ)) (bs cs : List Bool) → answers es ≡ bs → answers fs ≡ cs → answers (below_step k es ++ fs) ≡ bs ++ cs
  answers-joined k es fs bs cs p q = map-append (λ (e : Placed ℕ). test e.1) (below_step k es) fs ∙ (λ i. (answers-below k es ∙ p) i ++ q i)

  mutual
    -- of a tree
    answers-tree : (t : TreeOf ℕ) → answers (tree_nodes t) ≡ tree_marks test t
    answers-tree (var n) = refl
    answers-tree (literal l) = refl
    answers-tree (send r s args) = ap (λ (bs : List Bool). test (send r s args) ∷ bs) (answers-joined 0 (tree_nodes r) (trees_nodes 1 args) _ _ (answers-tree r) (answers-trees 1 args))
    answers-tree (cascade r ms) = ap (λ (bs : List Bool). test (cascade r ms) ∷ bs) (answers-joined 0 (tree_nodes r) (messages_nodes 1 ms) _ _ (answers-tree r) (answers-messages 1 ms))
    answers-tree (assign n t) = ap (λ (bs : List Bool). test (assign n t) ∷ bs) (answers-below 0 (tree_nodes t) ∙ answers-tree t)
    answers-tree (block ps ts ss e) = ap (λ (bs : List Bool). test (block ps ts ss e) ∷ bs) (answers-statements 0 ss)
    answers-tree (brace ts) = ap (λ (bs : List Bool). test (brace ts) ∷ bs) (answers-trees 0 ts)
    answers-tree (return t) = ap (λ (bs : List Bool). test (return t) ∷ bs) (answers-below 0 (tree_nodes t) ∙ answers-tree t)

    -- of trees
    answers-trees : (k : ℕ) (ts : TreesOf ℕ) → answers (trees_nodes k ts) ≡ trees_marks test ts
    answers-trees k no_trees = refl
    answers-trees k (more_trees t ts) = answers-joined k (tree_nodes t) (trees_nodes (k + 1) ts) _ _ (answers-tree t) (answers-trees (k + 1) ts)

    -- of messages
    answers-messages : (k : ℕ) (ms : MessagesOf ℕ) → answers (messages_nodes k ms) ≡ messages_marks test ms
    answers-messages k no_messages = refl
    answers-messages k (more_messages s args ms) =
        map-append (λ (e : Placed ℕ). test e.1) (trees_nodes k args) (messages_nodes (k + count args) ms) ∙ (λ i. answers-trees k args i ++ answers-messages (k + count args) ms i)

    -- of statements
    pub answers-statements : (k : ℕ) (ss : StatementsOf ℕ) → answers (statements_nodes k ss) ≡ statements_marks test ss
    answers-statements k no_statements = refl
    answers-statements k (more_statements c t ss) = answers-joined k (tree_nodes t) (statements_nodes (k + 1) ss) _ _ (answers-tree t) (answers-statements (k + 1) ss)
