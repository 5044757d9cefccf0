-- What is asked of the names that nodes use, where those that are declared round the node pass, is asked of the free names.
use Rattle.std.proofs.Common.{◌≡◌, ℕ, suc, ◌+◌, Bool, true, false, not, cond, ◌&&◌, ◌||◌, List, [], ◌∷◌, ◌++◌, append_assoc, filter, option_map, unwrap_or, refl, sym, ap, ◌∙◌, arith}
use Rattle.std.specs.List.{list_any, list_all}
use Rattle.std.specs.Option.{option_map_or}
use Rattle.std.proofs.Math.Bool.{or_assoc}
use Rattle.std.proofs.lemmas.List.{append-nil}
use Rattle.std.proofs.lemmas.List.Folds.{list_all-append, list_all-map, list_any-append}
use Rattle.tree_model.specs.Tree.{TreeOf, var, literal, send, cascade, assign, block, brace, return, TreesOf, no_trees, more_trees, MessagesOf, no_messages, more_messages, StatementsOf, no_statements, more_statements}
use Rattle.tree_model.specs.Path.{append, nth, all_arguments, statement_trees, children}
use Rattle.tree_model.specs.Nodes.{Placed, below_step, tree_nodes, trees_nodes, statements_nodes}
use Rattle.tree_model.proofs.NodesLemmas.{tree_nodes-children}
use Rattle.tree_model.proofs.Induction.{AllTrees, by_children_trees}
use Rattle.scope_model.specs.Scope.{ScopeOf, PlacedScope, own_scope, entered, scopes_round, is_among, declares}
use Rattle.scope_model.specs.FreeNames.{each_once, free_occurrences, free_in_trees, free_in_messages, free_in_statements}
use Rattle.image_model.specs.Uses.{name_used}

-- two tests that agree
pub all-same : {X : Type 0} (p q : X → Bool) → ((x : X) → p x ≡ q x) → (xs : List X) → list_all p xs ≡ list_all q xs
all-same p q h [] = refl
all-same p q h (x ∷ xs) = λ i. h x i && all-same p q h xs i

module _ {N : Type 0} (same : N → N → Bool) (is_pseudo : N → Bool) where
  -- a test of the name that a node uses, if it uses one
  abbrev used : (N → Bool) → TreeOf N → Bool
  used f t = option_map_or f (name_used t) true

  -- whether one of the scopes declares a name
  abbrev pub declared : List (PlacedScope N) → N → Bool
  declared ps x = list_any (λ (p : PlacedScope N). is_among same p.1.arguments x || is_among same p.1.temporaries x) ps

  -- a test of names at which pseudo-variables pass
  abbrev fine : (N → Bool) → N → Bool
  fine P x = is_pseudo x || P x

  -- the same where names pass that the scopes round a place declare
  abbrev pub passes : (List ℕ → List (PlacedScope N)) → (N → Bool) → Placed N → Bool
  passes round P e = used (λ x. is_pseudo x || (declared (round e.0) x || P x)) e.1

  -- the nodes of a tree pass where its free names do
  abbrev Told : TreeOf N → Type 0
  Told t = (P : N → Bool) (d : ℕ) → list_all (passes (entered d t) P) (tree_nodes t) ≡ list_all (fine P) (free_occurrences same is_pseudo t)

  -- the nodes of trees, in scopes that are entered behind others
  trees-told : (round : List ℕ → List (PlacedScope N)) (d k : ℕ) (outer : List (PlacedScope N)) (P : N → Bool) (ts : TreesOf N)
      → ((p : ℕ) (ks : List ℕ) → round ((p + k) ∷ ks) ≡ unwrap_or (option_map (λ c. entered d c ks) (nth ts p)) [] ++ outer) → AllTrees Told ts
      → list_all (passes round P) (trees_nodes k ts) ≡ list_all (fine (λ x. declared outer x || P x)) (free_in_trees same is_pseudo ts)
  trees-told round d k outer P no_trees h all = refl
  trees-told round d k outer P (more_trees t ts) h all =
      list_all-append (passes round P) (below_step k (tree_nodes t)) (trees_nodes (k + 1) ts)
      ∙ (λ i. first i && trees-told round d (k + 1) outer P ts later all.1 i)
      ∙ sym (list_all-append (fine (λ x. declared outer x || P x)) (free_occurrences same is_pseudo t) (free_in_trees same is_pseudo ts))
    where
      at : (ks : List ℕ) → round (k ∷ ks) ≡ entered d t ks ++ outer
      at ks = let e : k ≡ 0 + k = omega arith in ap (λ (n : ℕ). round (n ∷ ks)) e ∙ h 0 ks

      later : (p : ℕ) (ks : List ℕ) → round ((p + (k + 1)) ∷ ks) ≡ unwrap_or (option_map (λ c. entered d c ks) (nth ts p)) [] ++ outer
      later p ks = let e : p + (k + 1) ≡ suc p + k = omega arith in ap (λ (n : ℕ). round (n ∷ ks)) e ∙ h (suc p) ks

      here : (e : Placed N) → passes round P (k ∷ e.0, e.1) ≡ passes (entered d t) (λ x. declared outer x || P x) e
      here e = λ i. used (λ x. is_pseudo x || (ap (λ ps. declared ps x || P x) (at e.0) ∙ (ap (λ (b : Bool). b || P x) (list_any-append (λ (p : PlacedScope N). is_among same p.1.arguments x || is_among same p.1.temporaries x) (entered d t e.0) outer) ∙ or_assoc (declared (entered d t e.0) x) (declared outer x) (P x))) i) e.1

      first : list_all (passes round P) (below_step k (tree_nodes t)) ≡ list_all (fine (λ x. declared outer x || P x)) (free_occurrences same is_pseudo t)
      first =
          list_all-map (passes round P) (λ (e : Placed N). (k ∷ e.0, e.1)) (tree_nodes t)
          ∙ all-same (λ e. passes round P (k ∷ e.0, e.1)) (passes (entered d t) (λ x. declared outer x || P x)) here (tree_nodes t)
          ∙ all.0 (λ x. declared outer x || P x) d

  -- the free names of lists
  appended-free : (ts us : TreesOf N) → free_in_trees same is_pseudo (append ts us) ≡ free_in_trees same is_pseudo ts ++ free_in_trees same is_pseudo us
  appended-free no_trees us = refl
  appended-free (more_trees t ts) us = ap (λ ns. free_occurrences same is_pseudo t ++ ns) (appended-free ts us) ∙ sym (append_assoc (free_occurrences same is_pseudo t) (free_in_trees same is_pseudo ts) (free_in_trees same is_pseudo us))

  messages-free : (ms : MessagesOf N) → free_in_trees same is_pseudo (all_arguments ms) ≡ free_in_messages same is_pseudo ms
  messages-free no_messages = refl
  messages-free (more_messages s args ms) = appended-free args (all_arguments ms) ∙ ap (λ ns. free_in_trees same is_pseudo args ++ ns) (messages-free ms)

  statements-free : (ss : StatementsOf N) → free_in_trees same is_pseudo (statement_trees ss) ≡ free_in_statements same is_pseudo ss
  statements-free no_statements = refl
  statements-free (more_statements c t ss) = ap (λ ns. free_occurrences same is_pseudo t ++ ns) (statements-free ss)

  -- the names that a block does not declare
  outside : (ps ts : List N) (P : N → Bool) (s : StatementsOf N) (d : ℕ) (ns : List N)
      → list_all (fine (λ x. declared ((d, record { arguments = ps; temporaries = ts; statements = s }) ∷ []) x || P x)) ns ≡ list_all (fine P) (filter (λ n. not (declares same is_pseudo ps ts n)) ns)
  outside ps ts P s d [] = refl
  outside ps ts P s d (n ∷ ns) =
      ap (λ (b : Bool). (is_pseudo n || (((is_among same ps n || is_among same ts n) || false) || P n)) && b) (outside ps ts P s d ns)
      ∙ by (is_pseudo n) (is_among same ps n || is_among same ts n) (P n)
      ∙ chosen (not (declares same is_pseudo ps ts n))
    where
      rest : List N
      rest = filter (λ m. not (declares same is_pseudo ps ts m)) ns

      by : (a b c : Bool) → ((a || ((b || false) || c)) && list_all (fine P) rest) ≡ cond (not (not a && b)) ((a || c) && list_all (fine P) rest) (list_all (fine P) rest)
      by true true c = refl
      by true false c = refl
      by false true c = refl
      by false false c = refl

      chosen : (a : Bool) → cond a ((is_pseudo n || P n) && list_all (fine P) rest) (list_all (fine P) rest) ≡ list_all (fine P) (cond a (n ∷ rest) rest)
      chosen true = refl
      chosen false = refl

  -- a node with those below it
  whole : (P : N → Bool) (d : ℕ) (t : TreeOf N)
      → (used (λ x. is_pseudo x || P x) t && list_all (fine (λ x. declared (own_scope d t) x || P x)) (free_in_trees same is_pseudo (children t))) ≡ list_all (fine P) (free_occurrences same is_pseudo t)
  whole P d (var n) = refl
  whole P d (literal l) = refl
  whole P d (send r s args) = refl
  whole P d (cascade r ms) = ap (λ ns. list_all (fine P) (free_occurrences same is_pseudo r ++ ns)) (messages-free ms)
  whole P d (assign n t) = ap (λ ns. fine P n && list_all (fine P) ns) (append-nil (free_occurrences same is_pseudo t))
  whole P d (block ps ts ss e) =
      outside ps ts P ss d (free_in_trees same is_pseudo (statement_trees ss)) ∙ ap (λ ns. list_all (fine P) (filter (λ n. not (declares same is_pseudo ps ts n)) ns)) (statements-free ss)
  whole P d (brace ts) = refl
  whole P d (return t) = ap (list_all (fine P)) (append-nil (free_occurrences same is_pseudo t))

  step-told : (t : TreeOf N) → AllTrees Told (children t) → Told t
  step-told t all P d =
      ap (list_all (passes (entered d t) P)) (tree_nodes-children t)
      ∙ ap (λ (b : Bool). used (λ x. is_pseudo x || P x) t && b) (trees-told (entered d t) (d + 1) 0 (own_scope d t) P (children t) (λ p ks. let e : p + 0 ≡ p = omega arith in ap (λ (n : ℕ). entered d t (n ∷ ks)) e) all)
      ∙ whole P d t

  statements-nodes : (k : ℕ) (ss : StatementsOf N) → statements_nodes k ss ≡ trees_nodes k (statement_trees ss)
  statements-nodes k no_statements = refl
  statements-nodes k (more_statements c t ss) = ap (λ (es : List (Placed N)). below_step k (tree_nodes t) ++ es) (statements-nodes (k + 1) ss)

  -- the nodes of a scope pass where its free names do
  pub scope-told : (s : ScopeOf N) (P : N → Bool)
      → list_all (passes (scopes_round s) P) (statements_nodes 0 s.statements) ≡ list_all (λ x. is_pseudo x || (declared ((0, s) ∷ []) x || P x)) (free_in_statements same is_pseudo s.statements)
  scope-told s P =
      ap (list_all (passes (scopes_round s) P)) (statements-nodes 0 s.statements)
      ∙ trees-told (scopes_round s) 1 0 ((0, s) ∷ []) P (statement_trees s.statements) (λ p ks. let e : p + 0 ≡ p = omega arith in ap (λ (n : ℕ). scopes_round s (n ∷ ks)) e) (by_children_trees Told step-told (statement_trees s.statements))
      ∙ ap (list_all (λ x. is_pseudo x || (declared ((0, s) ∷ []) x || P x))) (statements-free s.statements)

  module _ (told : (m n : N) → same m n ≡ true → m ≡ n) (q : N → Bool) where
    -- a name that is there passes for those that are the same
    without : (n : N) (ns : List N) → (q n && list_all q (filter (λ k. not (same n k)) ns)) ≡ (q n && list_all q ns)
    without n [] = refl
    without n (k ∷ ks) = by (same n k) refl (without n ks)
      where
        swap : (a b c : Bool) → (a && (b && c)) ≡ (b && (a && c))
        swap true b c = refl
        swap false true c = refl
        swap false false c = refl

        twice : (a b : Bool) → (a && (a && b)) ≡ (a && b)
        twice true b = refl
        twice false b = refl

        by : (b : Bool) → same n k ≡ b → (q n && list_all q (filter (λ j. not (same n j)) ks)) ≡ (q n && list_all q ks)
            → (q n && list_all q (cond (not b) (k ∷ filter (λ j. not (same n j)) ks) (filter (λ j. not (same n j)) ks))) ≡ (q n && (q k && list_all q ks))
        by true e rest = rest ∙ (sym (twice (q n) (list_all q ks)) ∙ ap (λ m. q n && (q m && list_all q ks)) (told n k e))
        by false e rest = swap (q n) (q k) (list_all q (filter (λ j. not (same n j)) ks)) ∙ (ap (λ (b : Bool). q k && b) rest ∙ swap (q k) (q n) (list_all q ks))

    -- each name asked once
    pub once-told : (ns : List N) → list_all q (each_once same ns) ≡ list_all q ns
    once-told [] = refl
    once-told (n ∷ ns) = without n (each_once same ns) ∙ ap (λ (b : Bool). q n && b) (once-told ns)
