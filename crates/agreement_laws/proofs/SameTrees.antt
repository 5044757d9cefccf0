-- Trees that are equal but for their comments: what they declare and what becomes of them once names are resolved.
use Rattle.std.proofs.Common.{◌≡◌, ℕ, zero, suc, ◌+◌, List, [], ◌∷◌, ◌++◌, length, Option, Some, None, refl, sym, ap, ◌∙◌}
use Rattle.std.specs.Prelude.{Bool, true, false, ◌&&◌, option_map, unwrap_or}
use Rattle.std.specs.Cmp.Lexicographic.{pointwise}
use Rattle.std.specs.List.{position_or_len}
use Rattle.std.proofs.lemmas.Bool.{false≢true}
use Rattle.std.proofs.lemmas.Grind.{flat_map-append}
use Rattle.rb_base.specs.Names.{text_eq}
use Rattle.tree_model.specs.Tree.{TreeOf, var, literal, send, cascade, assign, block, brace, return, TreesOf, no_trees, more_trees, MessagesOf, no_messages, more_messages, StatementsOf, no_statements, more_statements}
use Rattle.tree_model.specs.Path.{append, count, nth, all_arguments, statement_trees, children, child}
use Rattle.scope_model.specs.Scope.{ScopeOf, PlacedScope, own_scope, entered, scopes_round}
use Rattle.image_model.specs.Uses.{name_used}
use Rattle.run_model.specs.Values.{Name}
use Rattle.run_model.proofs.Finite.{and-true_left, and-true_right}
use Rattle.run_model.proofs.RenamingLemmas.{text-same}
use Rattle.resolved_model.specs.ResolvedTrees.{reading, constant, sending, cascading, assigning, block_of, brace_of, returning, more_nodes, more_sends, more_lines}
use Rattle.resolved_model.specs.Resolving.{Meant, MeantAt, below, declared_by, place_at, reference_of, target_of, resolved, resolved_trees, resolved_messages, resolved_statements, resolved_scope}
use Rattle.mapped_model.proofs.NodesBelow.{Below, Among, below-children, first-below, others-below, first-message, other-messages}
use Rattle.same_trees.specs.SameTrees.{same_tree, same_trees, same_messages, same_statements}
use Rattle.same_trees.proofs.Told.{pointwise_told, literal_told}

-- lists of names that are told to be equal are
pub names-same : (xs ys : List Name) → pointwise text_eq xs ys ≡ true → xs ≡ ys
names-same = pointwise_told text_eq text-same

-- lists of as many nodes
count-same : (ts us : TreesOf Name) → same_trees text_eq ts us ≡ true → count us ≡ count ts
count-same no_trees no_trees h = refl
count-same (more_trees t ts) (more_trees u us) h = ap (λ n. n + 1) (count-same ts us (and-true_right (same_tree text_eq t u) _ h))
count-same no_trees (more_trees u us) h = absurd (false≢true h)
count-same (more_trees t ts) no_trees h = absurd (false≢true h)

-- both hold
both : (a b : Bool) → a ≡ true → b ≡ true → (a && b) ≡ true
both true b p q = q
both false b p q = absurd (false≢true p)

-- the nodes of two lists
append-same : (ts us vs ws : TreesOf Name) → same_trees text_eq ts us ≡ true → same_trees text_eq vs ws ≡ true → same_trees text_eq (append ts vs) (append us ws) ≡ true
append-same no_trees no_trees vs ws h k = k
append-same (more_trees t ts) (more_trees u us) vs ws h k =
    both (same_tree text_eq t u) (same_trees text_eq (append ts vs) (append us ws)) (and-true_left (same_tree text_eq t u) _ h) (append-same ts us vs ws (and-true_right (same_tree text_eq t u) _ h) k)
append-same no_trees (more_trees u us) vs ws h k = absurd (false≢true h)
append-same (more_trees t ts) no_trees vs ws h k = absurd (false≢true h)

-- the arguments of messages
arguments-same : (ks ms : MessagesOf Name) → same_messages text_eq ks ms ≡ true → same_trees text_eq (all_arguments ks) (all_arguments ms) ≡ true
arguments-same no_messages no_messages h = refl
arguments-same (more_messages s xs ks) (more_messages t ys ms) h =
    let rest = and-true_right (text_eq s t) _ h in
    append-same xs ys (all_arguments ks) (all_arguments ms) (and-true_left (same_trees text_eq xs ys) _ rest) (arguments-same ks ms (and-true_right (same_trees text_eq xs ys) _ rest))
arguments-same no_messages (more_messages t ys ms) h = absurd (false≢true h)
arguments-same (more_messages s xs ks) no_messages h = absurd (false≢true h)

-- the nodes of statements
statements-same : (ss rs : StatementsOf Name) → same_statements text_eq ss rs ≡ true → same_trees text_eq (statement_trees ss) (statement_trees rs) ≡ true
statements-same no_statements no_statements h = refl
statements-same (more_statements c t ss) (more_statements d u rs) h =
    both (same_tree text_eq t u) _ (and-true_left (same_tree text_eq t u) _ h) (statements-same ss rs (and-true_right (same_tree text_eq t u) _ h))
statements-same no_statements (more_statements d u rs) h = absurd (false≢true h)
statements-same (more_statements c t ss) no_statements h = absurd (false≢true h)

-- the nodes right below
children-same : (t u : TreeOf Name) → same_tree text_eq t u ≡ true → same_trees text_eq (children t) (children u) ≡ true
children-same (var m) (var n) h = refl
children-same (literal k) (literal l) h = refl
children-same (send q r xs) (send t u ys) h =
    both (same_tree text_eq q t) _ (and-true_left (same_tree text_eq q t) _ h) (and-true_right (text_eq r u) _ (and-true_right (same_tree text_eq q t) _ h))
children-same (cascade q ks) (cascade t ms) h =
    both (same_tree text_eq q t) _ (and-true_left (same_tree text_eq q t) _ h) (arguments-same ks ms (and-true_right (same_tree text_eq q t) _ h))
children-same (assign m t) (assign n u) h = both (same_tree text_eq t u) true (and-true_right (text_eq m n) _ h) refl
children-same (block ps ts ss d) (block qs us rs e) h = statements-same ss rs (and-true_right (pointwise text_eq ts us) _ (and-true_right (pointwise text_eq ps qs) _ h))
children-same (brace xs) (brace ys) h = h
children-same (return t) (return u) h = both (same_tree text_eq t u) true h refl
children-same t u h = absurd (false≢true h)

-- both nodes are there and the same, or none is
abbrev SameNodes : Option (TreeOf Name) → Option (TreeOf Name) → Type 0
SameNodes None None = Unit {0}
SameNodes None (Some u) = ⊥
SameNodes (Some t) None = ⊥
SameNodes (Some t) (Some u) = same_tree text_eq t u ≡ true

-- the node of a number
nth-same : (ts us : TreesOf Name) (k : ℕ) → same_trees text_eq ts us ≡ true → SameNodes (nth ts k) (nth us k)
nth-same no_trees no_trees k h = tt
nth-same (more_trees t ts) (more_trees u us) zero h = and-true_left (same_tree text_eq t u) _ h
nth-same (more_trees t ts) (more_trees u us) (suc k) h = nth-same ts us k (and-true_right (same_tree text_eq t u) _ h)
nth-same no_trees (more_trees u us) k h = absurd (false≢true h)
nth-same (more_trees t ts) no_trees k h = absurd (false≢true h)

-- the names that scopes declare, one list behind another
declared-append : (ps qs : List (PlacedScope Name)) → declared_by (ps ++ qs) ≡ declared_by ps ++ declared_by qs
declared-append ps qs = flat_map-append (λ (p : PlacedScope Name). p.1.arguments ++ p.1.temporaries) ps qs

-- what a block declares
own-same : (d : ℕ) (t u : TreeOf Name) → same_tree text_eq t u ≡ true → declared_by (own_scope d t) ≡ declared_by (own_scope d u)
own-same d (var m) (var n) h = refl
own-same d (literal k) (literal l) h = refl
own-same d (send q r xs) (send t u ys) h = refl
own-same d (cascade q ks) (cascade t ms) h = refl
own-same d (assign m t) (assign n u) h = refl
own-same d (block ps ts ss x) (block qs us rs y) h =
    λ i. (names-same ps qs (and-true_left (pointwise text_eq ps qs) _ h) i ++ names-same ts us (and-true_left (pointwise text_eq ts us) _ (and-true_right (pointwise text_eq ps qs) _ h)) i) ++ []
own-same d (brace xs) (brace ys) h = refl
own-same d (return t) (return u) h = refl
own-same d t u h = absurd (false≢true h)

-- what the blocks declare on from nodes that may be there
on-same : (go : TreeOf Name → List (PlacedScope Name)) → ((t u : TreeOf Name) → same_tree text_eq t u ≡ true → declared_by (go t) ≡ declared_by (go u)) → (o p : Option (TreeOf Name)) → SameNodes o p →
    declared_by (unwrap_or (option_map go o) []) ≡ declared_by (unwrap_or (option_map go p) [])
on-same go f None None h = refl
on-same go f None (Some u) h = absurd h
on-same go f (Some t) None h = absurd h
on-same go f (Some t) (Some u) h = f t u h

-- what the blocks declare that a path enters
entered-same : (path : List ℕ) (d : ℕ) (t u : TreeOf Name) → same_tree text_eq t u ≡ true → declared_by (entered d t path) ≡ declared_by (entered d u path)
entered-same [] d t u h = refl
entered-same (k ∷ ks) d t u h =
    declared-append (unwrap_or (option_map (λ c. entered (d + 1) c ks) (child t k)) []) (own_scope d t)
    ∙ (λ i. on-same (λ c. entered (d + 1) c ks) (entered-same ks (d + 1)) (child t k) (child u k) (nth-same (children t) (children u) k (children-same t u h)) i ++ own-same d t u h i)
    ∙ sym (declared-append (unwrap_or (option_map (λ c. entered (d + 1) c ks) (child u k)) []) (own_scope d u))

-- scopes that declare the same, with the same statements but for comments
pub record SameScopes (s r : ScopeOf Name) : Type 0 where
  pub arguments : s.arguments ≡ r.arguments
  pub temporaries : s.temporaries ≡ r.temporaries
  pub statements : same_statements text_eq s.statements r.statements ≡ true

-- a name has the same place in them
pub place-same : (s r : ScopeOf Name) → SameScopes s r → (path : List ℕ) (n : Name) → place_at s path n ≡ place_at r path n
place-same s r h path n = ap (position_or_len (text_eq n)) (round path)
  where
    own : declared_by ((0, s) ∷ []) ≡ declared_by ((0, r) ∷ [])
    own = λ i. (h.arguments i ++ h.temporaries i) ++ []

    round : (path : List ℕ) → declared_by (scopes_round s path) ≡ declared_by (scopes_round r path)
    round [] = own
    round (k ∷ ks) =
        declared-append (unwrap_or (option_map (λ c. entered 1 c ks) (nth (statement_trees s.statements) k)) []) ((0, s) ∷ [])
        ∙ (λ i. on-same (λ c. entered 1 c ks) (entered-same ks 1) (nth (statement_trees s.statements) k) (nth (statement_trees r.statements) k) (nth-same (statement_trees s.statements) (statement_trees r.statements) k (statements-same s.statements r.statements h.statements)) i ++ own i)
        ∙ sym (declared-append (unwrap_or (option_map (λ c. entered 1 c ks) (nth (statement_trees r.statements) k)) []) ((0, r) ∷ []))

-- the name that a node uses means the same in both, and has the same place
abbrev pub MeansSame : MeantAt → MeantAt → List ℕ → TreeOf Name → Type 0
MeansSame before after path u = (n : Name) → name_used u ≡ Some n → before path n ≡ after path n

mutual
  -- a node, resolved
  tree-same : (t u : TreeOf Name) (before after : MeantAt) → same_tree text_eq t u ≡ true → Below (MeansSame before after) t → resolved before t ≡ resolved after u
  tree-same (var m) (var n) before after h k =
      ap (λ (x : Meant). reading (reference_of x.meaning x.place m)) (k [] (var m) refl m refl) ∙ ap (λ x. reading (reference_of (after [] x).meaning (after [] x).place x)) (text-same m n h)
  tree-same (literal k) (literal l) before after h below = ap constant (literal_told text_eq text-same k l h)
  tree-same (send q r xs) (send t u ys) before after h k =
      let among = below-children (MeansSame before after) (send q r xs) k in
      let rest = and-true_right (same_tree text_eq q t) _ h in
      λ i. sending (tree-same q t (below 0 before) (below 0 after) (and-true_left (same_tree text_eq q t) _ h) (first-below (MeansSame before after) q xs 0 among) i) (text-same r u (and-true_left (text_eq r u) _ rest) i)
      (trees-same xs ys before after 1 (and-true_right (text_eq r u) _ rest) (others-below (MeansSame before after) q xs 0 among) i)
  tree-same (cascade q ks) (cascade t ms) before after h k =
      let among = below-children (MeansSame before after) (cascade q ks) k in
      λ i. cascading (tree-same q t (below 0 before) (below 0 after) (and-true_left (same_tree text_eq q t) _ h) (first-below (MeansSame before after) q (all_arguments ks) 0 among) i)
      (messages-same ks ms before after 1 (and-true_right (same_tree text_eq q t) _ h) (others-below (MeansSame before after) q (all_arguments ks) 0 among) i)
  tree-same (assign m t) (assign n u) before after h k =
      let among = below-children (MeansSame before after) (assign m t) k in
      λ i. assigning ((ap (λ (x : Meant). target_of x.meaning x.place m) (k [] (assign m t) refl m refl) ∙ ap (λ x. target_of (after [] x).meaning (after [] x).place x) (text-same m n (and-true_left (text_eq m n) _ h))) i)
      (tree-same t u (below 0 before) (below 0 after) (and-true_right (text_eq m n) _ h) (first-below (MeansSame before after) t no_trees 0 among) i)
  tree-same (block ps ts ss d) (block qs us rs e) before after h k =
      let rest = and-true_right (pointwise text_eq ps qs) _ h in
      λ i. block_of (length (names-same ps qs (and-true_left (pointwise text_eq ps qs) _ h) i)) (length (names-same ts us (and-true_left (pointwise text_eq ts us) _ rest) i))
      (lines-same ss rs before after 0 (and-true_right (pointwise text_eq ts us) _ rest) (below-children (MeansSame before after) (block ps ts ss d) k) i)
  tree-same (brace xs) (brace ys) before after h k = ap brace_of (trees-same xs ys before after 0 h (below-children (MeansSame before after) (brace xs) k))
  tree-same (return t) (return u) before after h k =
      ap returning (tree-same t u (below 0 before) (below 0 after) h (first-below (MeansSame before after) t no_trees 0 (below-children (MeansSame before after) (return t) k)))
  tree-same t u before after h k = absurd (false≢true h)

  trees-same : (ts us : TreesOf Name) (before after : MeantAt) (k : ℕ) → same_trees text_eq ts us ≡ true → Among (MeansSame before after) ts k → resolved_trees before k ts ≡ resolved_trees after k us
  trees-same no_trees no_trees before after k h among = refl
  trees-same (more_trees t ts) (more_trees u us) before after k h among =
      λ i. more_nodes (tree-same t u (below k before) (below k after) (and-true_left (same_tree text_eq t u) _ h) (first-below (MeansSame before after) t ts k among) i)
      (trees-same ts us before after (suc k) (and-true_right (same_tree text_eq t u) _ h) (others-below (MeansSame before after) t ts k among) i)
  trees-same ts us before after k h among = absurd (false≢true h)

  messages-same : (ks ms : MessagesOf Name) (before after : MeantAt) (k : ℕ) → same_messages text_eq ks ms ≡ true → Among (MeansSame before after) (all_arguments ks) k → resolved_messages before k ks ≡ resolved_messages after k ms
  messages-same no_messages no_messages before after k h among = refl
  messages-same (more_messages s xs ks) (more_messages t ys ms) before after k h among =
      let rest = and-true_right (text_eq s t) _ h in
      let args = and-true_left (same_trees text_eq xs ys) _ rest in
      λ i. more_sends (text-same s t (and-true_left (text_eq s t) _ h) i) (trees-same xs ys before after k args (first-message (MeansSame before after) xs (all_arguments ks) k among) i)
      ((messages-same ks ms before after (k + count xs) (and-true_right (same_trees text_eq xs ys) _ rest) (other-messages (MeansSame before after) xs (all_arguments ks) k among) ∙ ap (λ c. resolved_messages after (k + c) ms) (sym (count-same xs ys args))) i)
  messages-same ks ms before after k h among = absurd (false≢true h)

  lines-same : (ss rs : StatementsOf Name) (before after : MeantAt) (k : ℕ) → same_statements text_eq ss rs ≡ true → Among (MeansSame before after) (statement_trees ss) k → resolved_statements before k ss ≡ resolved_statements after k rs
  lines-same no_statements no_statements before after k h among = refl
  lines-same (more_statements c t ss) (more_statements d u rs) before after k h among =
      λ i. more_lines (tree-same t u (below k before) (below k after) (and-true_left (same_tree text_eq t u) _ h) (first-below (MeansSame before after) t (statement_trees ss) k among) i)
      (lines-same ss rs before after (suc k) (and-true_right (same_tree text_eq t u) _ h) (others-below (MeansSame before after) t (statement_trees ss) k among) i)
  lines-same ss rs before after k h among = absurd (false≢true h)

-- a scope, resolved
pub scope-same : (s r : ScopeOf Name) (before after : MeantAt) → SameScopes s r → Among (MeansSame before after) (statement_trees s.statements) 0 → resolved_scope before s ≡ resolved_scope after r
scope-same s r before after h among =
    λ i. record { parameters = length (h.arguments i); temporaries = length (h.temporaries i); statements = lines-same s.statements r.statements before after 0 h.statements among i }
