-- The nodes of a tree are the tree itself and those of the nodes right below it.
use Rattle.std.proofs.Common.{◌≡◌, ℕ, suc, ◌+◌, arith, Bool, true, false, List, [], ◌∷◌, ◌++◌, length, append_assoc, refl, ap, sym, ◌∙◌}
use Rattle.std.proofs.lemmas.List.{append-nil}
use Rattle.grammar_model.specs.Spanned.{SpannedTree, Var, Literal, Send, Cascade, Assign, Block, Brace, Return, SpannedTrees, NoTrees, MoreTrees, SpannedMessages, NoMessages, MoreMessages, SpannedStatements, NoStatements, MoreStatements}
use Rattle.grammar_model.specs.Spans.{begin_of, end_of, spanned_append, spanned_arguments, spanned_statements, spanned_children}
use Rattle.parse_events.specs.Found.{count_trees}
use Rattle.event_spans.specs.declared.place.Place.{Place}
use Rattle.event_spans.specs.Preorder.{above, tree_places, trees_places, messages_places, statements_places}
use Rattle.event_spans.specs.Nodes.{Reached, tree_nodes, trees_nodes, messages_nodes, statements_nodes}

-- whether a node is a block
abbrev pub is_block : SpannedTree → Bool
is_block (Block f e ps ds ss c) = true
is_block t = false

-- the node at a depth
abbrev pub place_of : ℕ → SpannedTree → Place
place_of d t = record { from = begin_of t; to = end_of t; depth = d; below = length (trees_places (suc d) (spanned_children t)); block = is_block t }

-- the places of the trees of two lists
trees_places-append : (d : ℕ) (ts us : SpannedTrees) → trees_places d (spanned_append ts us) ≡ trees_places d ts ++ trees_places d us
trees_places-append d NoTrees us = refl
trees_places-append d (MoreTrees t ts) us =
    ap (λ ps. tree_places d t ++ ps) (trees_places-append d ts us) ∙ sym (append_assoc (tree_places d t) (trees_places d ts) (trees_places d us))

-- the places of messages are those of all arguments
messages_places-arguments : (d : ℕ) (ms : SpannedMessages) → messages_places d ms ≡ trees_places d (spanned_arguments ms)
messages_places-arguments d NoMessages = refl
messages_places-arguments d (MoreMessages s xs ms) =
    ap (λ ps. trees_places d xs ++ ps) (messages_places-arguments d ms) ∙ sym (trees_places-append d xs (spanned_arguments ms))

-- the places of statements are those of their nodes
pub statements_places-trees : (d : ℕ) (ss : SpannedStatements) → statements_places d ss ≡ trees_places d (spanned_statements ss)
statements_places-trees d NoStatements = refl
statements_places-trees d (MoreStatements c f t ss) = ap (λ ps. tree_places d t ++ ps) (statements_places-trees d ss)

-- the places of a tree are that of the tree and those of the nodes right below it
pub tree_places-children : (d : ℕ) (t : SpannedTree) → tree_places d t ≡ place_of d t ∷ trees_places (suc d) (spanned_children t)
tree_places-children d (Var f e n) = refl
tree_places-children d (Literal f e l) = refl
tree_places-children d (Send f e r s xs) = refl
tree_places-children d (Cascade f e r ms) = ap (λ ps. above d f e false (tree_places (suc d) r ++ ps)) (messages_places-arguments (suc d) ms)
tree_places-children d (Assign f e n t) = ap (above d f e false) (sym (append-nil (tree_places (suc d) t)))
tree_places-children d (Block f e ps ds ss c) = ap (above d f e true) (statements_places-trees (suc d) ss)
tree_places-children d (Brace f e ts) = refl
tree_places-children d (Return f e t) = ap (above d f e false) (sym (append-nil (tree_places (suc d) t)))

-- the nodes of the trees of two lists
trees_nodes-append : (path : List ℕ) (k : ℕ) (ts us : SpannedTrees) → trees_nodes path k (spanned_append ts us) ≡ trees_nodes path k ts ++ trees_nodes path (count_trees ts + k) us
trees_nodes-append path k NoTrees us = let e : k ≡ 0 + k = omega arith in ap (λ n. trees_nodes path n us) e
trees_nodes-append path k (MoreTrees t ts) us =
    let e : count_trees ts + suc k ≡ suc (count_trees ts) + k = omega arith in
    ap (λ (es : List Reached). tree_nodes (path ++ k ∷ []) t ++ es) (trees_nodes-append path (suc k) ts us)
    ∙ ap (λ n. tree_nodes (path ++ k ∷ []) t ++ (trees_nodes path (suc k) ts ++ trees_nodes path n us)) e
    ∙ sym (append_assoc (tree_nodes (path ++ k ∷ []) t) (trees_nodes path (suc k) ts) (trees_nodes path (suc (count_trees ts) + k) us))

-- the nodes of messages are those of all arguments
messages_nodes-arguments : (path : List ℕ) (k : ℕ) (ms : SpannedMessages) → messages_nodes path k ms ≡ trees_nodes path k (spanned_arguments ms)
messages_nodes-arguments path k NoMessages = refl
messages_nodes-arguments path k (MoreMessages s xs ms) =
    ap (λ (es : List Reached). trees_nodes path k xs ++ es) (messages_nodes-arguments path (count_trees xs + k) ms)
    ∙ sym (trees_nodes-append path k xs (spanned_arguments ms))

-- the nodes of statements are those of their trees
pub statements_nodes-trees : (path : List ℕ) (k : ℕ) (ss : SpannedStatements) → statements_nodes path k ss ≡ trees_nodes path k (spanned_statements ss)
statements_nodes-trees path k NoStatements = refl
statements_nodes-trees path k (MoreStatements c f t ss) =
    ap (λ (es : List Reached). tree_nodes (path ++ k ∷ []) t ++ es) (statements_nodes-trees path (suc k) ss)

-- the nodes of a tree are the tree and those of the nodes right below it
pub tree_nodes-children : (path : List ℕ) (t : SpannedTree) → tree_nodes path t ≡ (path, t) ∷ trees_nodes path 0 (spanned_children t)
tree_nodes-children path (Var f e n) = refl
tree_nodes-children path (Literal f e l) = refl
tree_nodes-children path (Send f e r s xs) = refl
tree_nodes-children path (Cascade f e r ms) =
    ap (λ (es : List Reached). (path, Cascade f e r ms) ∷ (tree_nodes (path ++ 0 ∷ []) r ++ es)) (messages_nodes-arguments path 1 ms)
tree_nodes-children path (Assign f e n t) = ap (λ (es : List Reached). (path, Assign f e n t) ∷ es) (sym (append-nil (tree_nodes (path ++ 0 ∷ []) t)))
tree_nodes-children path (Block f e ps ds ss c) = ap (λ (es : List Reached). (path, Block f e ps ds ss c) ∷ es) (statements_nodes-trees path 0 ss)
tree_nodes-children path (Brace f e ts) = refl
tree_nodes-children path (Return f e t) = ap (λ (es : List Reached). (path, Return f e t) ∷ es) (sym (append-nil (tree_nodes (path ++ 0 ∷ []) t)))
