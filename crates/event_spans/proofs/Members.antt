-- A path leads to a node exactly where the node stands with it among all nodes.
use Rattle.std.proofs.Common.{◌≡◌, ℕ, zero, suc, ◌+◌, ◌⊎◌, inl, inr, refl, sym, ◌∙◌, ap, subst, arith, List, [], ◌∷◌, ◌++◌, append_assoc, Option, Some, None, option_and_then}
use Rattle.std.specs.Prelude.{Contains}
use Rattle.std.proofs.lemmas.List.{append-nil}
use Rattle.std.proofs.lemmas.List.Elements.{Contains-append_left, Contains-append_right, Contains-append_cases}
use Rattle.grammar_model.specs.Spanned.{SpannedTree, SpannedTrees, NoTrees, MoreTrees}
use Rattle.grammar_model.specs.Spans.{spanned_children, spanned_nth, spanned_part, spanned_among}
use Rattle.event_spans.specs.Nodes.{Reached, tree_nodes, trees_nodes}
use Rattle.event_spans.proofs.Induction.{AllTrees, by_children_trees}
use Rattle.event_spans.proofs.Children.{tree_nodes-children}

module _ {A : Type 0} where
  -- the first element
  pub Contains-here : (x : A) (xs : List A) → Contains (x ∷ xs) x
  Contains-here x xs = (0, omega arith, refl)

  -- an element behind the first
  pub Contains-there : (x : A) (xs : List A) (y : A) → Contains xs y → Contains (x ∷ xs) y
  Contains-there x xs y h = let lt = h.1 in (suc h.0, omega arith, h.2)

  -- an element is the first, or behind it
  pub Contains-cons_cases : (x : A) (xs : List A) (y : A) → Contains (x ∷ xs) y → (x ≡ y) ⊎ Contains xs y
  Contains-cons_cases x xs y (zero, lt, e) = inl e
  Contains-cons_cases x xs y (suc k, lt, e) = inr (k, omega arith, e)

-- a path with a beginning leads to u from the node of the beginning
pub record Leads (start : List ℕ) (t : SpannedTree) (path : List ℕ) (u : SpannedTree) : Type 0 where
  pub rest : List ℕ
  pub is : path ≡ start ++ rest
  pub leads : spanned_part t rest ≡ Some u

-- the same from trees whose numbers go up from k
pub record LeadsFrom (start : List ℕ) (k : ℕ) (ts : SpannedTrees) (path : List ℕ) (u : SpannedTree) : Type 0 where
  pub number : ℕ
  pub rest : List ℕ
  pub is : path ≡ start ++ (number + k) ∷ rest
  pub leads : spanned_among ts (number ∷ rest) ≡ Some u

-- paths lead to all nodes of a tree
abbrev LeadsToNodes : SpannedTree → Type 0
LeadsToNodes t = (start path : List ℕ) (u : SpannedTree) → Contains (tree_nodes start t) (path, u) → Leads start t path u

-- paths lead to all nodes of trees
leads_from : (start : List ℕ) (k : ℕ) (ts : SpannedTrees) → AllTrees LeadsToNodes ts → (path : List ℕ) (u : SpannedTree) → Contains (trees_nodes start k ts) (path, u) → LeadsFrom start k ts path u
leads_from start k NoTrees all path u (j, lt, e) = absurd (omega arith)
leads_from start k (MoreTrees t ts) all path u h =
    elim (Contains-append_cases (tree_nodes (start ++ k ∷ []) t) (trees_nodes start (suc k) ts) (path, u) h) [
      | inl here ↦
          let w = all.0 (start ++ k ∷ []) path u here in
          let e : k ≡ 0 + k = omega arith in
          record {
            number = 0;
            rest = w.rest;
            is = w.is ∙ append_assoc start (k ∷ []) w.rest ∙ ap (λ n. start ++ n ∷ w.rest) e;
            leads = w.leads;
          }
      | inr there ↦
          let w = leads_from start (suc k) ts all.1 path u there in
          let e : w.number + suc k ≡ suc w.number + k = omega arith in
          record {
            number = suc w.number;
            rest = w.rest;
            is = w.is ∙ ap (λ n. start ++ n ∷ w.rest) e;
            leads = w.leads;
          }
    ]

-- from the nodes right below a node to the node
leads_to_nodes_step : (t : SpannedTree) → AllTrees LeadsToNodes (spanned_children t) → LeadsToNodes t
leads_to_nodes_step t all start path u h =
    elim (Contains-cons_cases (start, t) (trees_nodes start 0 (spanned_children t)) (path, u) (subst (λ (es : List Reached). Contains es (path, u)) (tree_nodes-children start t) h)) [
      | inl e ↦ record {
        rest = [];
        is = sym (ap (λ (r : Reached). r.0) e) ∙ sym (append-nil start);
        leads = ap (λ (r : Reached). Some r.1) e;
      }
      | inr there ↦
          let w = leads_from start 0 (spanned_children t) all path u there in
          let e : w.number + 0 ≡ w.number = omega arith in
          record {
            rest = w.number ∷ w.rest;
            is = w.is ∙ ap (λ n. start ++ n ∷ w.rest) e;
            leads = w.leads;
          }
    ]

-- paths lead to all nodes of trees
pub leads_among : (ts : SpannedTrees) (path : List ℕ) (u : SpannedTree) → Contains (trees_nodes [] 0 ts) (path, u) → spanned_among ts path ≡ Some u
leads_among ts path u h =
    let w = leads_from [] 0 ts (by_children_trees LeadsToNodes leads_to_nodes_step ts) path u h in
    let e : w.number + 0 ≡ w.number = omega arith in
    ap (spanned_among ts) (w.is ∙ ap (λ n. n ∷ w.rest) e) ∙ w.leads

-- the nodes of a tree of a number are among those of all trees
among_trees : (start : List ℕ) (k : ℕ) (ts : SpannedTrees) (number : ℕ) (c : SpannedTree) (rest : List ℕ) (u : SpannedTree) → spanned_nth ts number ≡ Some c → Contains (tree_nodes (start ++ (number + k) ∷ []) c) ((start ++ (number + k) ∷ []) ++ rest, u)
    → Contains (trees_nodes start k ts) (start ++ (number + k) ∷ rest, u)
among_trees start k NoTrees number c rest u found h = cc
among_trees start k (MoreTrees t ts) zero c rest u found h =
    let same : c ≡ t = cc in
    let e : 0 + k ≡ k = omega arith in
    let moved = subst (λ n. Contains (tree_nodes (start ++ n ∷ []) c) ((start ++ n ∷ []) ++ rest, u)) e h in
    let inside = Contains-append_left (tree_nodes (start ++ k ∷ []) t) (trees_nodes start (suc k) ts) ((start ++ k ∷ []) ++ rest, u)
    (subst (λ (d : SpannedTree). Contains (tree_nodes (start ++ k ∷ []) d) ((start ++ k ∷ []) ++ rest, u)) same moved) in
    subst (λ (p : List ℕ). Contains (trees_nodes start k (MoreTrees t ts)) (p, u)) (append_assoc start (k ∷ []) rest ∙ ap (λ n. start ++ n ∷ rest) (sym e)) inside
among_trees start k (MoreTrees t ts) (suc number) c rest u found h =
    let e : suc number + k ≡ number + suc k = omega arith in
    let moved = subst (λ n. Contains (tree_nodes (start ++ n ∷ []) c) ((start ++ n ∷ []) ++ rest, u)) e h in
    let inside = Contains-append_right (tree_nodes (start ++ k ∷ []) t) (trees_nodes start (suc k) ts) (start ++ (number + suc k) ∷ rest, u)
    (among_trees start (suc k) ts number c rest u found moved) in
    subst (λ n. Contains (trees_nodes start k (MoreTrees t ts)) (start ++ n ∷ rest, u)) (sym e) inside

-- each node where a path leads is among the nodes of a tree with any beginning
abbrev IsMember : List ℕ → Type 0
IsMember ks = (start : List ℕ) (t u : SpannedTree) → spanned_part t ks ≡ Some u → Contains (tree_nodes start t) (start ++ ks, u)

-- and among those of trees
among_member : (k : ℕ) (ks : List ℕ) → IsMember ks → (start : List ℕ) (ts : SpannedTrees) (u : SpannedTree) → spanned_among ts (k ∷ ks) ≡ Some u → Contains (trees_nodes start 0 ts) (start ++ k ∷ ks, u)
among_member k ks later start ts u found = go (spanned_nth ts k) refl found
  where
    go : (o : Option SpannedTree) → spanned_nth ts k ≡ o → option_and_then (λ c. spanned_part c ks) o ≡ Some u → Contains (trees_nodes start 0 ts) (start ++ k ∷ ks, u)
    go None e leads = cc
    go (Some c) e leads =
        let n : k + 0 ≡ k = omega arith in
        subst (λ m. Contains (trees_nodes start 0 ts) (start ++ m ∷ ks, u)) n (among_trees start 0 ts k c ks u e (later (start ++ (k + 0) ∷ []) c u leads))

-- each node where a path leads is among the nodes of a tree
part_member : (ks : List ℕ) → IsMember ks
part_member [] start t u found =
    let same : t ≡ u = cc in
    subst (λ (es : List Reached). Contains es (start ++ [], u)) (sym (tree_nodes-children start t))
    (subst (λ (r : Reached). Contains ((start, t) ∷ trees_nodes start 0 (spanned_children t)) r) (ap (λ (p : List ℕ). (p, t)) (sym (append-nil start)) ∙ ap (λ (d : SpannedTree). (start ++ [], d)) same)
    (Contains-here (start, t) (trees_nodes start 0 (spanned_children t))))
part_member (k ∷ ks) start t u found =
    subst (λ (es : List Reached). Contains es (start ++ k ∷ ks, u)) (sym (tree_nodes-children start t))
    (Contains-there (start, t) (trees_nodes start 0 (spanned_children t)) (start ++ k ∷ ks, u) (among_member k ks (part_member ks) start (spanned_children t) u found))

-- each node where a path leads is among the nodes of trees
pub member_among : (ts : SpannedTrees) (path : List ℕ) (u : SpannedTree) → spanned_among ts path ≡ Some u → Contains (trees_nodes [] 0 ts) (path, u)
member_among ts [] u found = cc
member_among ts (k ∷ ks) u found = among_member k ks (part_member ks) [] ts u found
