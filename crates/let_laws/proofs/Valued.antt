-- Code in which an expression stands for each read of a name.
use Rattle.std.proofs.Common.{◌≡◌, ℕ, suc, ◌+◌, [], ◌∷◌, refl, ap, ◌∙◌}
use Rattle.std.specs.Prelude.{Bool, true, false, if◌then◌else◌}
use Rattle.rb_base.specs.Names.{text_eq}
use Rattle.tree_model.specs.Tree.{TreeOf, var, literal, send, cascade, assign, block, brace, return, TreesOf, no_trees, more_trees, MessagesOf, no_messages, more_messages, StatementsOf, no_statements, more_statements}
use Rattle.tree_model.specs.Path.{count, all_arguments, statement_trees}
use Rattle.run_model.specs.Values.{Name}
use Rattle.mapped_model.proofs.NodesBelow.{FactAt, Below, Among, below-children, first-below, others-below, first-message, other-messages}
use Rattle.command_model.specs.Walk.{Making, onward, rebuilt, rebuilt_trees, rebuilt_messages, rebuilt_statements}
use Rattle.code_command_laws.proofs.RebuiltBlock.{ChangesNames}
use Rattle.let_laws.specs.ReadsFirst.{IsWithout, AreWithout, MessagesWithout, LinesWithout}
use Rattle.let_laws.proofs.Unnamed.{told-back}

module _ (x : Name) (v : TreeOf Name) where
  -- what a name becomes
  abbrev pub name_valued : Name → TreeOf Name
  name_valued n = if text_eq x n then v else var n

  abbrev mutual
    pub tree_valued : TreeOf Name → TreeOf Name
    tree_valued (var n) = name_valued n
    tree_valued (literal l) = literal l
    tree_valued (send r s args) = send (tree_valued r) s (trees_valued args)
    tree_valued (cascade r ms) = cascade (tree_valued r) (messages_valued ms)
    tree_valued (assign n t) = assign n (tree_valued t)
    tree_valued (block ps ts ss e) = block ps ts (lines_valued ss) e
    tree_valued (brace ts) = brace (trees_valued ts)
    tree_valued (return t) = return (tree_valued t)

    pub trees_valued : TreesOf Name → TreesOf Name
    trees_valued no_trees = no_trees
    trees_valued (more_trees t ts) = more_trees (tree_valued t) (trees_valued ts)

    pub messages_valued : MessagesOf Name → MessagesOf Name
    messages_valued no_messages = no_messages
    messages_valued (more_messages s args ms) = more_messages s (trees_valued args) (messages_valued ms)

    pub lines_valued : StatementsOf Name → StatementsOf Name
    lines_valued no_statements = no_statements
    lines_valued (more_statements c t ss) = more_statements c (tree_valued t) (lines_valued ss)

  -- a walk makes that of a name
  abbrev pub Values : Making Name → FactAt
  Values f path u = (n : Name) → u ≡ var n → f path (var n) ≡ name_valued n

  -- a walk that changes names alone, and these so
  mutual
    pub tree-rebuilt : (f : Making Name) → ChangesNames f → (t : TreeOf Name) → Below (Values f) t → rebuilt f t ≡ tree_valued t
    tree-rebuilt f c (var n) h = h [] (var n) refl n refl
    tree-rebuilt f c (literal l) h = c [] (literal l) tt
    tree-rebuilt f c (send r s args) h =
        let k = below-children (Values f) (send r s args) h in
        c [] (send (rebuilt (onward 0 f) r) s (rebuilt_trees f 1 args)) tt ∙ (λ i. send (tree-rebuilt (onward 0 f) (λ path t. c (0 ∷ path) t) r (first-below (Values f) r args 0 k) i) s (trees-rebuilt f c 1 args (others-below (Values f) r args 0 k) i))
    tree-rebuilt f c (cascade r ms) h =
        let k = below-children (Values f) (cascade r ms) h in
        c [] (cascade (rebuilt (onward 0 f) r) (rebuilt_messages f 1 ms)) tt
        ∙ (λ i. cascade (tree-rebuilt (onward 0 f) (λ path t. c (0 ∷ path) t) r (first-below (Values f) r (all_arguments ms) 0 k) i) (messages-rebuilt f c 1 ms (others-below (Values f) r (all_arguments ms) 0 k) i))
    tree-rebuilt f c (assign n t) h =
        c [] (assign n (rebuilt (onward 0 f) t)) tt ∙ ap (assign n) (tree-rebuilt (onward 0 f) (λ path u. c (0 ∷ path) u) t (first-below (Values f) t no_trees 0 (below-children (Values f) (assign n t) h)))
    tree-rebuilt f c (block ps ts ss e) h = c [] (block ps ts (rebuilt_statements f 0 ss) e) tt ∙ ap (λ z. block ps ts z e) (lines-rebuilt f c 0 ss (below-children (Values f) (block ps ts ss e) h))
    tree-rebuilt f c (brace ts) h = c [] (brace (rebuilt_trees f 0 ts)) tt ∙ ap brace (trees-rebuilt f c 0 ts (below-children (Values f) (brace ts) h))
    tree-rebuilt f c (return t) h =
        c [] (return (rebuilt (onward 0 f) t)) tt ∙ ap return (tree-rebuilt (onward 0 f) (λ path u. c (0 ∷ path) u) t (first-below (Values f) t no_trees 0 (below-children (Values f) (return t) h)))

    trees-rebuilt : (f : Making Name) → ChangesNames f → (k : ℕ) (ts : TreesOf Name) → Among (Values f) ts k → rebuilt_trees f k ts ≡ trees_valued ts
    trees-rebuilt f c k no_trees h = refl
    trees-rebuilt f c k (more_trees t ts) h = λ i. more_trees (tree-rebuilt (onward k f) (λ path u. c (k ∷ path) u) t (first-below (Values f) t ts k h) i) (trees-rebuilt f c (suc k) ts (others-below (Values f) t ts k h) i)

    messages-rebuilt : (f : Making Name) → ChangesNames f → (k : ℕ) (ms : MessagesOf Name) → Among (Values f) (all_arguments ms) k → rebuilt_messages f k ms ≡ messages_valued ms
    messages-rebuilt f c k no_messages h = refl
    messages-rebuilt f c k (more_messages s args ms) h =
        λ i. more_messages s (trees-rebuilt f c k args (first-message (Values f) args (all_arguments ms) k h) i) (messages-rebuilt f c (k + count args) ms (other-messages (Values f) args (all_arguments ms) k h) i)

    pub lines-rebuilt : (f : Making Name) → ChangesNames f → (k : ℕ) (ss : StatementsOf Name) → Among (Values f) (statement_trees ss) k → rebuilt_statements f k ss ≡ lines_valued ss
    lines-rebuilt f c k no_statements h = refl
    lines-rebuilt f c k (more_statements d t ss) h =
        λ i. more_statements d (tree-rebuilt (onward k f) (λ path u. c (k ∷ path) u) t (first-below (Values f) t (statement_trees ss) k h) i) (lines-rebuilt f c (suc k) ss (others-below (Values f) t (statement_trees ss) k h) i)

  -- code without the name stays
  mutual
    pub tree-stays : (t : TreeOf Name) → IsWithout x t → tree_valued t ≡ t
    tree-stays (var n) w = ap (λ b. if b then v else var n) (told-back n x w)
    tree-stays (literal l) w = refl
    tree-stays (send r s args) w = λ i. send (tree-stays r w.0 i) s (trees-stay args w.1 i)
    tree-stays (cascade r ms) w = λ i. cascade (tree-stays r w.0 i) (messages-stay ms w.1 i)
    tree-stays (assign n t) w = ap (assign n) (tree-stays t w.1)
    tree-stays (block ps ts ss e) w = ap (λ z. block ps ts z e) (lines-stay ss w)
    tree-stays (brace ts) w = ap brace (trees-stay ts w)
    tree-stays (return t) w = ap return (tree-stays t w)

    trees-stay : (ts : TreesOf Name) → AreWithout x ts → trees_valued ts ≡ ts
    trees-stay no_trees w = refl
    trees-stay (more_trees t ts) w = λ i. more_trees (tree-stays t w.0 i) (trees-stay ts w.1 i)

    messages-stay : (ms : MessagesOf Name) → MessagesWithout x ms → messages_valued ms ≡ ms
    messages-stay no_messages w = refl
    messages-stay (more_messages s args ms) w = λ i. more_messages s (trees-stay args w.0 i) (messages-stay ms w.1 i)

    pub lines-stay : (ss : StatementsOf Name) → LinesWithout x ss → lines_valued ss ≡ ss
    lines-stay no_statements w = refl
    lines-stay (more_statements c t ss) w = λ i. more_statements c (tree-stays t w.0 i) (lines-stay ss w.1 i)

-- a node that does not assign the name
abbrev pub IsLoose : Name → TreeOf Name → Type 0
IsLoose x (assign n t) = text_eq x n ≡ false
IsLoose x t = Unit {0}

abbrev pub Loose : Name → FactAt
Loose x path u = IsLoose x u

module _ (x : Name) (v : TreeOf Name) (without : IsWithout x v) where
  name-without : (n : Name) (b : Bool) → text_eq x n ≡ b → IsWithout x (if b then v else var n)
  name-without n true e = without
  name-without n false e = told-back x n e

  -- code that does not assign the name is without it then
  mutual
    pub tree-left : (t : TreeOf Name) → Below (Loose x) t → IsWithout x (tree_valued x v t)
    tree-left (var n) h = name-without n (text_eq x n) refl
    tree-left (literal l) h = tt
    tree-left (send r s args) h =
        let k = below-children (Loose x) (send r s args) h in
        (tree-left r (first-below (Loose x) r args 0 k), trees-left args 1 (others-below (Loose x) r args 0 k))
    tree-left (cascade r ms) h =
        let k = below-children (Loose x) (cascade r ms) h in
        (tree-left r (first-below (Loose x) r (all_arguments ms) 0 k), messages-left ms 1 (others-below (Loose x) r (all_arguments ms) 0 k))
    tree-left (assign n t) h = (told-back x n (h [] (assign n t) refl), tree-left t (first-below (Loose x) t no_trees 0 (below-children (Loose x) (assign n t) h)))
    tree-left (block ps ts ss e) h = lines-left ss 0 (below-children (Loose x) (block ps ts ss e) h)
    tree-left (brace ts) h = trees-left ts 0 (below-children (Loose x) (brace ts) h)
    tree-left (return t) h = tree-left t (first-below (Loose x) t no_trees 0 (below-children (Loose x) (return t) h))

    trees-left : (ts : TreesOf Name) (k : ℕ) → Among (Loose x) ts k → AreWithout x (trees_valued x v ts)
    trees-left no_trees k h = tt
    trees-left (more_trees t ts) k h = (tree-left t (first-below (Loose x) t ts k h), trees-left ts (suc k) (others-below (Loose x) t ts k h))

    messages-left : (ms : MessagesOf Name) (k : ℕ) → Among (Loose x) (all_arguments ms) k → MessagesWithout x (messages_valued x v ms)
    messages-left no_messages k h = tt
    messages-left (more_messages s args ms) k h = (trees-left args k (first-message (Loose x) args (all_arguments ms) k h), messages-left ms (k + count args) (other-messages (Loose x) args (all_arguments ms) k h))

    lines-left : (ss : StatementsOf Name) (k : ℕ) → Among (Loose x) (statement_trees ss) k → LinesWithout x (lines_valued x v ss)
    lines-left no_statements k h = tt
    lines-left (more_statements c t ss) k h = (tree-left t (first-below (Loose x) t (statement_trees ss) k h), lines-left ss (suc k) (others-below (Loose x) t (statement_trees ss) k h))
