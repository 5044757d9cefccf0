-- The nodes in preorder, walked through, are the nodes of the tree with their paths.
use Rattle.std.proofs.Common.{◌≡◌, ℕ, suc, ◌+◌, ◌-◌, arith, List, [], ◌∷◌, ◌++◌, map, length, length-append, append_assoc, take, refl, ap, sym, ◌∙◌, Option, Some, None}
use Rattle.std.specs.Prelude.{slice_get}
use Rattle.std.proofs.lemmas.List.{append-nil, take_at, take_all, map-append}
use Rattle.grammar_model.specs.Spanned.{SpannedTree, SpannedTrees, NoTrees, MoreTrees}
use Rattle.grammar_model.specs.Spans.{spanned_children}
use Rattle.event_spans.specs.declared.place.Place.{Place}
use Rattle.event_spans.specs.Preorder.{tree_places, trees_places}
use Rattle.event_spans.specs.Nodes.{Reached, tree_nodes, trees_nodes}
use Rattle.event_spans.specs.Walk.{next_step, next_path, Visit, walked}
use Rattle.event_spans.proofs.Induction.{AllTrees, by_children_trees}
use Rattle.event_spans.proofs.Children.{place_of, tree_places-children, tree_nodes-children}

-- a node of a tree with its path, as it is walked by
abbrev pub visit_of : Reached → Visit
visit_of r = record { path = r.0; place = place_of (length r.0 - 1) r.1; within = trees_places (length r.0) (spanned_children r.1) }

-- what stands behind the beginning of a list
get-behind : (start : List ℕ) (k : ℕ) (more : List ℕ) → slice_get (start ++ k ∷ more) (length start) ≡ Some k
get-behind [] k more = refl
get-behind (x ∷ xs) k more = get-behind xs k more

-- nothing stands behind a list
get-none : (start : List ℕ) → slice_get start (length start) ≡ None
get-none [] = refl
get-none (x ∷ xs) = get-none xs

-- the path of the node behind the node of a number and the nodes in it
next-behind : (start : List ℕ) (k : ℕ) (more : List ℕ) → next_path (length start) (start ++ k ∷ more) ≡ start ++ suc k ∷ []
next-behind start k more =
    let e : k + 1 ≡ suc k = omega arith in
    ap (λ (o : Option ℕ). take (length start) (start ++ k ∷ more) ++ next_step o ∷ []) (get-behind start k more)
    ∙ ap (λ xs. xs ++ (k + 1) ∷ []) (take_at start (k ∷ more) (length start) refl)
    ∙ ap (λ n. start ++ n ∷ []) e

-- the path of the first node in a node
next-first : (start : List ℕ) → next_path (length start) start ≡ start ++ 0 ∷ []
next-first start =
    ap (λ (o : Option ℕ). take (length start) start ++ next_step o ∷ []) (get-none start)
    ∙ ap (λ xs. xs ++ 0 ∷ []) (take_all (length start) start (omega arith))

-- a node is walked by
abbrev seen : List ℕ → Place → List Place → List Visit → List Visit
seen path place within vs = record { path = path; place = place; within = within } ∷ vs

-- nodes are walked by, and behind them the path begins with a start
record Walk (start : List ℕ) (visits : List Visit) (from : List Visit) (rest : List Place) : Type 0 where
  tail : List ℕ
  is : from ≡ visits ++ walked (start ++ tail) rest

-- the nodes of a tree are walked by
abbrev Walks : SpannedTree → Type 0
Walks t = (start : List ℕ) (k : ℕ) (before : List ℕ) (rest : List Place) → next_path (length start) before ≡ start ++ k ∷ []
    → Walk (start ++ k ∷ []) (map visit_of (tree_nodes (start ++ k ∷ []) t)) (walked before (tree_places (length start) t ++ rest)) rest

-- those of trees
walk_trees : (ts : SpannedTrees) → AllTrees Walks ts → (start : List ℕ) (k : ℕ) (before tail : List ℕ) (rest : List Place) → next_path (length start) before ≡ start ++ k ∷ [] → before ≡ start ++ tail
    → Walk start (map visit_of (trees_nodes start k ts)) (walked before (trees_places (length start) ts ++ rest)) rest
walk_trees NoTrees all start k before tail rest ready e = record { tail = tail; is = ap (λ p. walked p rest) e }
walk_trees (MoreTrees t ts) all start k before tail rest ready e =
    let one = all.0 start k before (trees_places (length start) ts ++ rest) ready in
    let more = walk_trees ts all.1 start (suc k) (start ++ k ∷ one.tail) (k ∷ one.tail) rest (next-behind start k one.tail) refl in
    record {
      tail = more.tail;
      is = ap (walked before) (append_assoc (tree_places (length start) t) (trees_places (length start) ts) rest)
          ∙ one.is
          ∙ ap (λ p. map visit_of (tree_nodes (start ++ k ∷ []) t) ++ walked p (trees_places (length start) ts ++ rest)) (append_assoc start (k ∷ []) one.tail)
          ∙ ap (λ (vs : List Visit). map visit_of (tree_nodes (start ++ k ∷ []) t) ++ vs) more.is
          ∙ sym (append_assoc (map visit_of (tree_nodes (start ++ k ∷ []) t)) (map visit_of (trees_nodes start (suc k) ts)) (walked (start ++ more.tail) rest))
          ∙ ap (λ (vs : List Visit). vs ++ walked (start ++ more.tail) rest) (sym (map-append visit_of (tree_nodes (start ++ k ∷ []) t) (trees_nodes start (suc k) ts)));
    }

-- from the nodes right below a node to the node
walk_step : (t : SpannedTree) → AllTrees Walks (spanned_children t) → Walks t
walk_step t all start k before rest ready =
    let q = start ++ k ∷ [] in
    let long : suc (length start) ≡ length q = omega (arith, length-append start (k ∷ [])) in
    let deep : length start ≡ length q - 1 = omega (arith, length-append start (k ∷ [])) in
    let below = trees_places (suc (length start)) (spanned_children t) in
    let w = walk_trees (spanned_children t) all q 0 q [] rest (next-first q) (sym (append-nil q)) in
    record {
      tail = w.tail;
      is = ap (λ ps. walked before (ps ++ rest)) (tree_places-children (length start) t)
          ∙ ap (λ p. seen p (place_of (length start) t) (take (length below) (below ++ rest)) (walked p (below ++ rest))) ready
          ∙ ap (λ ps. seen q (place_of (length start) t) ps (walked q (below ++ rest))) (take_at below rest (length below) refl)
          ∙ ap (λ d. seen q (place_of d t) below (walked q (below ++ rest))) deep
          ∙ ap (λ n. seen q (place_of (length q - 1) t) (trees_places n (spanned_children t)) (walked q (trees_places n (spanned_children t) ++ rest))) long
          ∙ ap (λ (vs : List Visit). visit_of (q, t) ∷ vs) w.is
          ∙ ap (λ (es : List Reached). map visit_of es ++ walked (q ++ w.tail) rest) (sym (tree_nodes-children q t));
    }

-- the nodes of trees, walked through
pub walked-nodes : (ts : SpannedTrees) → walked [] (trees_places 0 ts) ≡ map visit_of (trees_nodes [] 0 ts)
walked-nodes ts =
    let w = walk_trees ts (by_children_trees Walks walk_step ts) [] 0 [] [] [] refl refl in
    ap (walked []) (sym (append-nil (trees_places 0 ts))) ∙ w.is ∙ append-nil (map visit_of (trees_nodes [] 0 ts))
