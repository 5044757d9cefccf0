-- All nodes of a sequence with their paths.
use Rattle.std.proofs.Common.{◌≡◌, ℕ, zero, suc, ◌+◌, ◌⊎◌, inl, inr, refl, sym, ◌∙◌, ap, subst, arith, List, [], ◌∷◌, ◌++◌, map, length, length-append, append_assoc, Option, Some, None, option_and_then}
use Rattle.std.specs.Prelude.{Contains}
use Rattle.std.proofs.lemmas.List.{append-nil, length-map, map-append}
use Rattle.std.proofs.lemmas.List.Elements.{Contains-append_left, Contains-append_right, Contains-append_cases}
use Rattle.std.proofs.lemmas.Simd.{map-map}
use Rattle.tree_model.specs.Tree.{TreeOf, var, literal, send, cascade, assign, block, brace, return, TreesOf, no_trees, more_trees, MessagesOf, no_messages, more_messages, StatementsOf, no_statements, more_statements, SequenceOf, map_names, map_trees, map_messages, map_statements, map_sequence}
use Rattle.tree_model.specs.Measure.{size, trees_size, messages_size, statements_size, sequence_size}
use Rattle.tree_model.specs.Path.{append, count, nth, all_arguments, statement_trees, children, child, part_at, part_among, part_in}
use Rattle.tree_model.specs.Nodes.{Placed, below_step, map_placed, tree_nodes, trees_nodes, messages_nodes, statements_nodes, nodes}
use Rattle.tree_model.proofs.Children.{count-map_trees}
use Rattle.tree_model.proofs.Induction.{AllTrees, by_children, by_children_trees}

module _ {A : Type 0} where
  -- the first element
  Contains-here : (x : A) (xs : List A) → Contains (x ∷ xs) x
  Contains-here x xs = (0, omega arith, refl)

  -- an element behind the first
  Contains-there : (x : A) (xs : List A) (y : A) → Contains xs y → Contains (x ∷ xs) y
  Contains-there x xs y h = let lt = h.1 in (suc h.0, omega arith, h.2)

  -- an element is the first, or behind it
  Contains-cons_cases : (x : A) (xs : List A) (y : A) → Contains (x ∷ xs) y → (x ≡ y) ⊎ Contains xs y
  Contains-cons_cases x xs y (zero, lt, e) = inl e
  Contains-cons_cases x xs y (suc k, lt, e) = inr (k, omega arith, e)

module _ {A B : Type 0} (f : A → B) where
  -- the image of an element
  Contains-map : (xs : List A) (x : A) → Contains xs x → Contains (map f xs) (f x)
  Contains-map [] x (k, lt, e) = absurd (omega arith)
  Contains-map (y ∷ ys) x h =
      elim (Contains-cons_cases y ys x h) [
        | inl e ↦ (0, omega arith, ap f e)
        | inr g ↦ Contains-there (f y) (map f ys) (f x) (Contains-map ys x g)
      ]

  -- each element of the images is the image of an element
  Contains-map_back : (xs : List A) (y : B) → Contains (map f xs) y → (x : A) × Contains xs x × (f x ≡ y)
  Contains-map_back [] y (k, lt, e) = absurd (omega arith)
  Contains-map_back (x ∷ xs) y h =
      elim (Contains-cons_cases (f x) (map f xs) y h) [
        | inl e ↦ (x, Contains-here x xs, e)
        | inr g ↦ let w = Contains-map_back xs y g in (w.0, Contains-there x xs w.0 w.1, w.2)
      ]

module _ {N : Type 0} where
  -- a node below a step has the step before its path
  Contains-below_step : (k : ℕ) (es : List (Placed N)) (path : List ℕ) (t : TreeOf N) → Contains es (path, t) → Contains (below_step k es) (k ∷ path, t)
  Contains-below_step k es path t h = Contains-map (λ (e : Placed N). (k ∷ e.0, e.1)) es (path, t) h

  -- the nodes of the trees of two lists
  trees_nodes-append : (k : ℕ) (ts us : TreesOf N) → trees_nodes k (append ts us) ≡ trees_nodes k ts ++ trees_nodes (k + count ts) us
  trees_nodes-append k no_trees us = let e : k ≡ k + 0 = omega arith in ap (λ n. trees_nodes n us) e
  trees_nodes-append k (more_trees t ts) us =
      let e : k + 1 + count ts ≡ k + (count ts + 1) = omega arith in
      ap (λ (es : List (Placed N)). below_step k (tree_nodes t) ++ es) (trees_nodes-append (k + 1) ts us)
      ∙ ap (λ n. below_step k (tree_nodes t) ++ (trees_nodes (k + 1) ts ++ trees_nodes n us)) e
      ∙ sym (append_assoc (below_step k (tree_nodes t)) (trees_nodes (k + 1) ts) (trees_nodes (k + (count ts + 1)) us))

  -- the nodes of messages are those of all arguments
  messages_nodes-all_arguments : (k : ℕ) (ms : MessagesOf N) → messages_nodes k ms ≡ trees_nodes k (all_arguments ms)
  messages_nodes-all_arguments k no_messages = refl
  messages_nodes-all_arguments k (more_messages s args ms) =
      ap (λ (es : List (Placed N)). trees_nodes k args ++ es) (messages_nodes-all_arguments (k + count args) ms)
      ∙ sym (trees_nodes-append k args (all_arguments ms))

  -- the nodes of statements are those of their trees
  statements_nodes-statement_trees : (k : ℕ) (ss : StatementsOf N) → statements_nodes k ss ≡ trees_nodes k (statement_trees ss)
  statements_nodes-statement_trees k no_statements = refl
  statements_nodes-statement_trees k (more_statements c t ss) =
      ap (λ (es : List (Placed N)). below_step k (tree_nodes t) ++ es) (statements_nodes-statement_trees (k + 1) ss)

  -- the nodes of a tree are the tree itself and those of the nodes right below it
  pub tree_nodes-children : (t : TreeOf N) → tree_nodes t ≡ ([], t) ∷ trees_nodes 0 (children t)
  tree_nodes-children (var n) = refl
  tree_nodes-children (literal l) = refl
  tree_nodes-children (send r s args) = refl
  tree_nodes-children (cascade r ms) =
      ap (λ (es : List (Placed N)). ([], cascade r ms) ∷ (below_step 0 (tree_nodes r) ++ es)) (messages_nodes-all_arguments 1 ms)
  tree_nodes-children (assign n t) = ap (λ (es : List (Placed N)). ([], assign n t) ∷ es) (sym (append-nil (below_step 0 (tree_nodes t))))
  tree_nodes-children (block ps ts ss e) = ap (λ (es : List (Placed N)). ([], block ps ts ss e) ∷ es) (statements_nodes-statement_trees 0 ss)
  tree_nodes-children (brace ts) = refl
  tree_nodes-children (return t) = ap (λ (es : List (Placed N)). ([], return t) ∷ es) (sym (append-nil (below_step 0 (tree_nodes t))))

-- a path leads to each node that stands with it among the nodes of a tree
abbrev LeadsToNodes : {N : Type 0} → TreeOf N → Type 0
LeadsToNodes {N} t = (path : List ℕ) (u : TreeOf N) → Contains (tree_nodes t) (path, u) → part_at t path ≡ Some u

-- a path leads to u among trees whose numbers go up from k
record LeadsFrom {N : Type 0} (k : ℕ) (ts : TreesOf N) (path : List ℕ) (u : TreeOf N) : Type 0 where
  place : ℕ
  rest : List ℕ
  is : path ≡ (place + k) ∷ rest
  leads : part_among ts (place ∷ rest) ≡ Some u

module _ {N : Type 0} where
  -- the same for the nodes of trees
  leads_from : (k : ℕ) (ts : TreesOf N) → AllTrees LeadsToNodes ts → (path : List ℕ) (u : TreeOf N) → Contains (trees_nodes k ts) (path, u) → LeadsFrom k ts path u
  leads_from k no_trees all path u (j, lt, e) = absurd (omega arith)
  leads_from k (more_trees t ts) all path u h =
      elim (Contains-append_cases (below_step k (tree_nodes t)) (trees_nodes (k + 1) ts) (path, u) h) [
        | inl here ↦
            let w = Contains-map_back (λ (e : Placed N). (k ∷ e.0, e.1)) (tree_nodes t) (path, u) here in
            record {
              place = 0;
              rest = w.0.0;
              is = let e : 0 + k ≡ k = omega arith in sym (ap (λ (e : Placed N). e.0) w.2) ∙ ap (λ n. n ∷ w.0.0) (sym e);
              leads = all.0 w.0.0 w.0.1 w.1 ∙ ap (λ (e : Placed N). Some e.1) w.2;
            }
        | inr there ↦
            let w = leads_from (k + 1) ts all.1 path u there in
            record {
              place = suc w.place;
              rest = w.rest;
              is = let e : w.place + (k + 1) ≡ suc w.place + k = omega arith in w.is ∙ ap (λ n. n ∷ w.rest) e;
              leads = w.leads;
            }
      ]

  -- a path that leads among the trees right below a node leads from the node
  part_at-part_among : (t : TreeOf N) (path : List ℕ) (u : TreeOf N) → part_among (children t) path ≡ Some u → part_at t path ≡ Some u
  part_at-part_among t [] u e = cc
  part_at-part_among t (k ∷ ks) u e = e

  -- where a path leads from the number 0
  part_among-LeadsFrom : (ts : TreesOf N) (path : List ℕ) (u : TreeOf N) → LeadsFrom 0 ts path u → part_among ts path ≡ Some u
  part_among-LeadsFrom ts path u w =
      let e : w.place + 0 ≡ w.place = omega arith in
      ap (part_among ts) (w.is ∙ ap (λ n. n ∷ w.rest) e) ∙ w.leads

  leads_to_nodes_step : (t : TreeOf N) → AllTrees LeadsToNodes (children t) → LeadsToNodes t
  leads_to_nodes_step t all path u h =
      elim (Contains-cons_cases ([], t) (trees_nodes 0 (children t)) (path, u) (subst (λ (es : List (Placed N)). Contains es (path, u)) (tree_nodes-children t) h)) [
        | inl e ↦ ap (λ (e : Placed N). part_at t e.0) (sym e) ∙ ap (λ (e : Placed N). Some e.1) e
        | inr there ↦ part_at-part_among t path u (part_among-LeadsFrom (children t) path u (leads_from 0 (children t) all path u there))
      ]

  -- a node stands among the nodes of a tree with a path that leads to it
  pub part_at-Contains : (t : TreeOf N) (path : List ℕ) (u : TreeOf N) → Contains (tree_nodes t) (path, u) → part_at t path ≡ Some u
  part_at-Contains t = by_children LeadsToNodes leads_to_nodes_step t

  -- the nodes below a tree of a number are among those of all trees
  Contains-trees_nodes : (k : ℕ) (ts : TreesOf N) (place : ℕ) (c : TreeOf N) (path : List ℕ) (u : TreeOf N) → nth ts place ≡ Some c → Contains (tree_nodes c) (path, u)
      → Contains (trees_nodes k ts) ((place + k) ∷ path, u)
  Contains-trees_nodes k no_trees place c path u found h = cc
  Contains-trees_nodes k (more_trees t ts) zero c path u found h =
      let same : t ≡ c = cc in
      let e : k ≡ 0 + k = omega arith in
      let inside = Contains-append_left (below_step k (tree_nodes t)) (trees_nodes (k + 1) ts) (k ∷ path, u)
      (Contains-below_step k (tree_nodes t) path u (subst (λ (d : TreeOf N). Contains (tree_nodes d) (path, u)) (sym same) h)) in
      subst (λ n. Contains (trees_nodes k (more_trees t ts)) (n ∷ path, u)) e inside
  Contains-trees_nodes k (more_trees t ts) (suc place) c path u found h =
      let e : place + (k + 1) ≡ suc place + k = omega arith in
      let inside = Contains-append_right (below_step k (tree_nodes t)) (trees_nodes (k + 1) ts) ((place + (k + 1)) ∷ path, u)
      (Contains-trees_nodes (k + 1) ts place c path u found h) in
      subst (λ n. Contains (trees_nodes k (more_trees t ts)) (n ∷ path, u)) e inside

  -- the same where the numbers go up from 0
  Contains-trees_nodes_0 : (ts : TreesOf N) (k : ℕ) (c : TreeOf N) (path : List ℕ) (u : TreeOf N) → nth ts k ≡ Some c → Contains (tree_nodes c) (path, u)
      → Contains (trees_nodes 0 ts) (k ∷ path, u)
  Contains-trees_nodes_0 ts k c path u found h =
      let e : k + 0 ≡ k = omega arith in
      subst (λ n. Contains (trees_nodes 0 ts) (n ∷ path, u)) e (Contains-trees_nodes 0 ts k c path u found h)

  -- each node that a path leads to stands with it among the nodes of a tree
  pub Contains-part_at : (t : TreeOf N) (path : List ℕ) (u : TreeOf N) → part_at t path ≡ Some u → Contains (tree_nodes t) (path, u)
  Contains-part_at t [] u found =
      let same : t ≡ u = cc in
      subst (λ (es : List (Placed N)). Contains es ([], u)) (sym (tree_nodes-children t))
      (subst (λ (d : TreeOf N). Contains (([], t) ∷ trees_nodes 0 (children t)) ([], d)) same (Contains-here ([], t) (trees_nodes 0 (children t))))
  Contains-part_at t (k ∷ ks) u found = by (child t k) refl (λ c. Contains-part_at c ks u)
    where
      by : (o : Option (TreeOf N)) → child t k ≡ o → ((c : TreeOf N) → part_at c ks ≡ Some u → Contains (tree_nodes c) (ks, u)) → Contains (tree_nodes t) (k ∷ ks, u)
      by None e later = let nowhere = ap (λ (o : Option (TreeOf N)). option_and_then (λ d. part_at d ks) o) e in cc
      by (Some c) e later =
          let onward = ap (λ (o : Option (TreeOf N)). option_and_then (λ d. part_at d ks) o) (sym e) ∙ found in
          subst (λ (es : List (Placed N)). Contains es (k ∷ ks, u)) (sym (tree_nodes-children t))
          (Contains-there ([], t) (trees_nodes 0 (children t)) (k ∷ ks, u) (Contains-trees_nodes_0 (children t) k c ks u e (later c onward)))

  -- a path leads to a node of a sequence where the node stands with it among all nodes
  pub part_in-Contains : (b : SequenceOf N) (path : List ℕ) (t : TreeOf N) → Contains (nodes b) (path, t) → part_in b path ≡ Some t
  part_in-Contains b path t h =
      part_among-LeadsFrom (statement_trees b.statements) path t
      (leads_from 0 (statement_trees b.statements) (by_children_trees LeadsToNodes leads_to_nodes_step (statement_trees b.statements)) path t
      (subst (λ (es : List (Placed N)). Contains es (path, t)) (statements_nodes-statement_trees 0 b.statements) h))

  -- each node that a path into a sequence leads to stands with it among all nodes
  pub Contains-part_in : (b : SequenceOf N) (path : List ℕ) (t : TreeOf N) → part_in b path ≡ Some t → Contains (nodes b) (path, t)
  Contains-part_in b [] t found = cc
  Contains-part_in b (k ∷ ks) t found = by (nth (statement_trees b.statements) k) refl
    where
      by : (o : Option (TreeOf N)) → nth (statement_trees b.statements) k ≡ o → Contains (nodes b) (k ∷ ks, t)
      by None e = let nowhere = ap (λ (o : Option (TreeOf N)). option_and_then (λ d. part_at d ks) o) e in cc
      by (Some c) e =
          let onward = ap (λ (o : Option (TreeOf N)). option_and_then (λ d. part_at d ks) o) (sym e) ∙ found in
          subst (λ (es : List (Placed N)). Contains es (k ∷ ks, t)) (sym (statements_nodes-statement_trees 0 b.statements))
          (Contains-trees_nodes_0 (statement_trees b.statements) k c ks t e (Contains-part_at c ks t onward))

  -- as many nodes are listed as there are
  mutual
    pub length-tree_nodes : (t : TreeOf N) → length (tree_nodes t) ≡ size t
    length-tree_nodes (var n) = refl
    length-tree_nodes (literal l) = refl
    length-tree_nodes (send r s args) =
        simp (length-append, length-map) (omega (arith, length-tree_nodes r, length-trees_nodes 1 args))
    length-tree_nodes (cascade r ms) =
        simp (length-append, length-map) (omega (arith, length-tree_nodes r, length-messages_nodes 1 ms))
    length-tree_nodes (assign n t) = simp length-map (omega (arith, length-tree_nodes t))
    length-tree_nodes (block ps ts ss e) = omega (arith, length-statements_nodes 0 ss)
    length-tree_nodes (brace ts) = omega (arith, length-trees_nodes 0 ts)
    length-tree_nodes (return t) = simp length-map (omega (arith, length-tree_nodes t))

    pub length-trees_nodes : (k : ℕ) (ts : TreesOf N) → length (trees_nodes k ts) ≡ trees_size ts
    length-trees_nodes k no_trees = refl
    length-trees_nodes k (more_trees t ts) =
        simp (length-append, length-map) (omega (arith, length-tree_nodes t, length-trees_nodes (k + 1) ts))

    pub length-messages_nodes : (k : ℕ) (ms : MessagesOf N) → length (messages_nodes k ms) ≡ messages_size ms
    length-messages_nodes k no_messages = refl
    length-messages_nodes k (more_messages s args ms) =
        simp length-append (omega (arith, length-trees_nodes k args, length-messages_nodes (k + count args) ms))

    pub length-statements_nodes : (k : ℕ) (ss : StatementsOf N) → length (statements_nodes k ss) ≡ statements_size ss
    length-statements_nodes k no_statements = refl
    length-statements_nodes k (more_statements c t ss) =
        simp (length-append, length-map) (omega (arith, length-tree_nodes t, length-statements_nodes (k + 1) ss))

  -- as many nodes of a sequence are listed as there are
  pub length-nodes : (b : SequenceOf N) → length (nodes b) ≡ sequence_size b
  length-nodes b = length-statements_nodes 0 b.statements

-- with the names changed
module _ {M N : Type 0} (f : M → N) where
  -- one step deeper
  map_placed-below_step : (k : ℕ) (es : List (Placed M)) → map_placed f (below_step k es) ≡ below_step k (map_placed f es)
  map_placed-below_step k es =
      map-map (λ (e : Placed M). (e.0, map_names f e.1)) (λ (e : Placed M). (k ∷ e.0, e.1)) es
      ∙ sym (map-map (λ (e : Placed N). (k ∷ e.0, e.1)) (λ (e : Placed M). (e.0, map_names f e.1)) es)

  -- two lists of nodes
  map_placed-append : (ds es : List (Placed M)) → map_placed f (ds ++ es) ≡ map_placed f ds ++ map_placed f es
  map_placed-append ds es = map-append (λ (e : Placed M). (e.0, map_names f e.1)) ds es

  -- one step deeper, before other nodes
  map_placed-below_step_append : (k : ℕ) (ds es : List (Placed M)) (ds' es' : List (Placed N)) → ds' ≡ map_placed f ds → es' ≡ map_placed f es
      → below_step k ds' ++ es' ≡ map_placed f (below_step k ds ++ es)
  map_placed-below_step_append k ds es ds' es' p q =
      (λ i. below_step k (p i) ++ q i) ∙ ap (λ (fs : List (Placed N)). fs ++ map_placed f es) (sym (map_placed-below_step k ds)) ∙ sym (map_placed-append (below_step k ds) es)

  -- the nodes of a tree
  mutual
    pub tree_nodes-map_names : (t : TreeOf M) → tree_nodes (map_names f t) ≡ map_placed f (tree_nodes t)
    tree_nodes-map_names (var n) = refl
    tree_nodes-map_names (literal l) = refl
    tree_nodes-map_names (send r s args) =
        ap (λ (es : List (Placed N)). ([], map_names f (send r s args)) ∷ es)
        (map_placed-below_step_append 0 _ _ _ _ (tree_nodes-map_names r) (trees_nodes-map_trees 1 args))
    tree_nodes-map_names (cascade r ms) =
        ap (λ (es : List (Placed N)). ([], map_names f (cascade r ms)) ∷ es)
        (map_placed-below_step_append 0 _ _ _ _ (tree_nodes-map_names r) (messages_nodes-map_messages 1 ms))
    tree_nodes-map_names (assign n t) =
        ap (λ (es : List (Placed N)). ([], map_names f (assign n t)) ∷ es) (ap (below_step 0) (tree_nodes-map_names t) ∙ sym (map_placed-below_step 0 (tree_nodes t)))
    tree_nodes-map_names (block ps ts ss e) = ap (λ (es : List (Placed N)). ([], map_names f (block ps ts ss e)) ∷ es) (statements_nodes-map_statements 0 ss)
    tree_nodes-map_names (brace ts) = ap (λ (es : List (Placed N)). ([], map_names f (brace ts)) ∷ es) (trees_nodes-map_trees 0 ts)
    tree_nodes-map_names (return t) =
        ap (λ (es : List (Placed N)). ([], map_names f (return t)) ∷ es) (ap (below_step 0) (tree_nodes-map_names t) ∙ sym (map_placed-below_step 0 (tree_nodes t)))

    pub trees_nodes-map_trees : (k : ℕ) (ts : TreesOf M) → trees_nodes k (map_trees f ts) ≡ map_placed f (trees_nodes k ts)
    trees_nodes-map_trees k no_trees = refl
    trees_nodes-map_trees k (more_trees t ts) = map_placed-below_step_append k _ _ _ _ (tree_nodes-map_names t) (trees_nodes-map_trees (k + 1) ts)

    pub messages_nodes-map_messages : (k : ℕ) (ms : MessagesOf M) → messages_nodes k (map_messages f ms) ≡ map_placed f (messages_nodes k ms)
    messages_nodes-map_messages k no_messages = refl
    messages_nodes-map_messages k (more_messages s args ms) =
        (λ i. trees_nodes-map_trees k args i ++ messages_nodes (k + count-map_trees f args i) (map_messages f ms))
        ∙ ap (λ (es : List (Placed N)). map_placed f (trees_nodes k args) ++ es) (messages_nodes-map_messages (k + count args) ms)
        ∙ sym (map_placed-append (trees_nodes k args) (messages_nodes (k + count args) ms))

    pub statements_nodes-map_statements : (k : ℕ) (ss : StatementsOf M) → statements_nodes k (map_statements f ss) ≡ map_placed f (statements_nodes k ss)
    statements_nodes-map_statements k no_statements = refl
    statements_nodes-map_statements k (more_statements c t ss) = map_placed-below_step_append k _ _ _ _ (tree_nodes-map_names t) (statements_nodes-map_statements (k + 1) ss)

  -- the nodes of a sequence
  pub nodes-map_sequence : (b : SequenceOf M) → nodes (map_sequence f b) ≡ map_placed f (nodes b)
  nodes-map_sequence b = statements_nodes-map_statements 0 b.statements
