-- Neighbouring statements stand at places of their own, which are those of no node.
use Rattle.std.proofs.Common.{◌≡◌, ℕ, suc, ◌+◌, ◌-◌, ◌<◌, ◌≤◌, arith, List, [], ◌∷◌, Option, Some, None, refl, ap, sym, subst, ◌∙◌, inl, inr}
use Rattle.std.specs.Prelude.{option_and_then}
use Rattle.std.proofs.lemmas.Bool.{cases_lt}
use Rattle.grammar_model.specs.Spanned.{SpannedTree, Var, Literal, Send, Cascade, Assign, Block, Brace, Return, SpannedTrees}
use Rattle.grammar_model.specs.Spans.{begin_of, end_of, spanned_statements, spanned_children, spanned_nth, spanned_part, spanned_among, statements_of, statements_among}
use Rattle.grammar_model.proofs.Spans.{AreBetween, IsPlaced, Placed, AllPlaced, placed_some, Nth, nth_placed, nth_order, step_of, Inside, part_inside, narrow}
use Rattle.grammar_model.proofs.Placing.{wider, higher}

-- nodes in order between two places, each well placed
record Nodes (low high : ℕ) (nodes : SpannedTrees) : Type 0 where
  between : AreBetween low high nodes
  placed : AllPlaced nodes

-- they stand between wider places too
nodes_wider : (low low' high high' : ℕ) (nodes : SpannedTrees) → low' ≤ low → high ≤ high' → Nodes low high nodes → Nodes low' high' nodes
nodes_wider low low' high high' nodes a b n = record { between = higher nodes low' high high' b (wider nodes low low' high a n.between); placed = n.placed }

-- one of them
node_of : (low high k : ℕ) (nodes : SpannedTrees) (d : SpannedTree) → Nodes low high nodes → spanned_nth nodes k ≡ Some d → Nth nodes low high low (suc high) d
node_of low high k nodes d n e = nth_placed nodes k low high low (suc high) d n.between (narrow nodes low high n.between) n.placed e

-- nodes that overlap stand below one tree of a list
one_step : (ts : SpannedTrees) (k m low high : ℕ) (x y c d : SpannedTree) → Nodes low high ts → spanned_nth ts k ≡ Some x → spanned_nth ts m ≡ Some y → begin_of x ≤ begin_of c → end_of c ≤ end_of x → begin_of y ≤ begin_of d → end_of d ≤ end_of y → begin_of c < end_of d → begin_of d < end_of c → k ≡ m
one_step ts k m low high x y c d n i j a b e f g h = elim (cases_lt k m) [
  | inl l ↦ absurd (omega (arith, nth_order ts k m low high x y n.between l i j, b, e, h))
  | inr l ↦ elim (cases_lt m k) [ inl o ↦ absurd (omega (arith, nth_order ts m k low high y x n.between o j i, a, f, g)) | inr o ↦ omega (arith, l, o) ]
]

-- the statements of a well placed block
opened_nodes : (x : SpannedTree) (nodes : SpannedTrees) → IsPlaced x → statements_of x ≡ Some nodes → Nodes (suc (begin_of x)) (end_of x) nodes
opened_nodes (Block f e ps ds ss c) nodes (Placed s b n a o) i =
    let same : spanned_statements ss ≡ nodes = cc in
    subst (Nodes (suc f) e) same (record { between = o; placed = a })
opened_nodes (Var f e n) nodes p i = cc
opened_nodes (Literal f e l) nodes p i = cc
opened_nodes (Send f e r s xs) nodes p i = cc
opened_nodes (Cascade f e r ms) nodes p i = cc
opened_nodes (Assign f e n t) nodes p i = cc
opened_nodes (Brace f e ts) nodes p i = cc
opened_nodes (Return f e t) nodes p i = cc

-- they are the nodes right below it
block_children : (x : SpannedTree) (nodes : SpannedTrees) → statements_of x ≡ Some nodes → spanned_children x ≡ nodes
block_children (Block f e ps ds ss c) nodes i = cc
block_children (Var f e n) nodes i = cc
block_children (Literal f e l) nodes i = cc
block_children (Send f e r s xs) nodes i = cc
block_children (Cascade f e r ms) nodes i = cc
block_children (Assign f e n t) nodes i = cc
block_children (Brace f e ts) nodes i = cc
block_children (Return f e t) nodes i = cc

-- the statements of a block below a tree
abbrev statements_in : SpannedTree → List ℕ → Option SpannedTrees
statements_in x ks = option_and_then statements_of (spanned_part x ks)

-- they are those of a block below its nodes
to_children : (x : SpannedTree) (ks : List ℕ) (nodes : SpannedTrees) → statements_in x ks ≡ Some nodes → statements_among (spanned_children x) ks ≡ Some nodes
to_children x [] nodes e = ap Some (block_children x nodes e)
to_children x (k ∷ ks) nodes e = e

-- the first step to a block in a list of trees
record BlockBelow (ts : SpannedTrees) (k : ℕ) (ks : List ℕ) (nodes : SpannedTrees) : Type 0 where
  tree : SpannedTree
  is : spanned_nth ts k ≡ Some tree
  leads : statements_in tree ks ≡ Some nodes

-- such a path has a first step
block_below : (ts : SpannedTrees) (k : ℕ) (ks : List ℕ) (nodes : SpannedTrees) → statements_among ts (k ∷ ks) ≡ Some nodes → BlockBelow ts k ks nodes
block_below ts k ks nodes e = go (spanned_nth ts k) refl e
  where
    go : (o : Option SpannedTree) → spanned_nth ts k ≡ o → option_and_then statements_of (option_and_then (λ c. spanned_part c ks) o) ≡ Some nodes → BlockBelow ts k ks nodes
    go None i e = cc
    go (Some x) i e = record { tree = x; is = i; leads = e }

-- the statements of a block stand strictly inside each tree that holds it
strictly_inside : (ks : List ℕ) (x : SpannedTree) (nodes : SpannedTrees) → IsPlaced x → statements_in x ks ≡ Some nodes → Nodes (suc (begin_of x)) (end_of x) nodes
strictly_inside [] x nodes p e = opened_nodes x nodes p e
strictly_inside (k ∷ ks) x nodes (Placed s b n a o) e =
    let below = block_below (spanned_children x) k ks nodes e in
    let y = nth_placed (spanned_children x) k (begin_of x) (end_of x) (begin_of x) (end_of x) below.tree b n a below.is in
    nodes_wider (suc (begin_of below.tree)) (suc (begin_of x)) (end_of below.tree) (end_of x) nodes (omega (arith, y.from)) y.to (strictly_inside ks below.tree nodes y.placed below.leads)

-- the nodes right below a well placed tree
children_nodes : (x : SpannedTree) → IsPlaced x → Nodes (begin_of x) (end_of x) (spanned_children x)
children_nodes x (Placed s b n a o) = record { between = b; placed = a }

-- neighbouring statements in a list of trees
pub record RunIn (ts : SpannedTrees) (path : List ℕ) (first count from to : ℕ) : Type 0 where
  pub nodes : SpannedTrees
  pub head : SpannedTree
  pub last : SpannedTree
  pub many : 2 ≤ count
  pub of_path : statements_among ts path ≡ Some nodes
  pub at_first : spanned_nth nodes first ≡ Some head
  pub at_last : spanned_nth nodes (first + count - 1) ≡ Some last
  pub from_is : begin_of head ≡ from
  pub to_is : end_of last ≡ to

-- the same statements, below the first step
run_below : {ts : SpannedTrees} {k : ℕ} {ks : List ℕ} {first count from to : ℕ} (r : RunIn ts (k ∷ ks) first count from to) (b : BlockBelow ts k ks r.nodes) → RunIn (spanned_children b.tree) ks first count from to
run_below {ks} r b = record { nodes = r.nodes; head = r.head; last = r.last; many = r.many; of_path = to_children b.tree ks r.nodes b.leads; at_first = r.at_first; at_last = r.at_last; from_is = r.from_is; to_is = r.to_is }

-- where neighbouring statements stand
record RunStands (low high : ℕ) (head last : SpannedTree) : Type 0 where
  from : low ≤ begin_of head
  head_some : begin_of head < end_of head
  order : end_of head ≤ begin_of last
  last_some : begin_of last < end_of last
  to : end_of last ≤ high

-- their first one ends before their last one begins
run_stands : (low high : ℕ) (nodes : SpannedTrees) (first count : ℕ) (head last : SpannedTree) → Nodes low high nodes → 2 ≤ count → spanned_nth nodes first ≡ Some head → spanned_nth nodes (first + count - 1) ≡ Some last → RunStands low high head last
run_stands low high nodes first count head last n many a b =
    let h = node_of low high first nodes head n a in
    let l = node_of low high (first + count - 1) nodes last n b in
    record { from = h.from; head_some = placed_some h.placed; order = nth_order nodes first (first + count - 1) low high head last n.between (omega arith) a b; last_some = placed_some l.placed; to = l.to }

-- where those of a block below a tree stand
below_stands : {ts : SpannedTrees} {k : ℕ} {ks : List ℕ} {first count from to : ℕ} (r : RunIn ts (k ∷ ks) first count from to) (b : BlockBelow ts k ks r.nodes) → IsPlaced b.tree → RunStands (suc (begin_of b.tree)) (end_of b.tree) r.head r.last
below_stands {ks} {first} {count} r b p = run_stands (suc (begin_of b.tree)) (end_of b.tree) r.nodes first count r.head r.last (strictly_inside ks b.tree r.nodes p b.leads) r.many r.at_first r.at_last

-- the first of them is well placed
head_placed : {ts : SpannedTrees} {k : ℕ} {ks : List ℕ} {first count from to : ℕ} (r : RunIn ts (k ∷ ks) first count from to) (b : BlockBelow ts k ks r.nodes) → IsPlaced b.tree → IsPlaced r.head
head_placed {ks} {first} r b p = (node_of (suc (begin_of b.tree)) (end_of b.tree) first r.nodes r.head (strictly_inside ks b.tree r.nodes p b.leads) r.at_first).placed

-- statements of the list itself are no node below one of its trees
top_run : (ts : SpannedTrees) (m low high first count from to : ℕ) (y d : SpannedTree) → Nodes low high ts → RunIn ts [] first count from to → spanned_nth ts m ≡ Some y → Inside y d → begin_of d ≡ from → end_of d ≡ to → ⊥
top_run ts m low high first count from to y d n r i q e f =
    let same : ts ≡ r.nodes = cc in
    let head_at : spanned_nth ts first ≡ Some r.head = ap (λ ns. spanned_nth ns first) same ∙ r.at_first in
    let last_at : spanned_nth ts (first + count - 1) ≡ Some r.last = ap (λ ns. spanned_nth ns (first + count - 1)) same ∙ r.at_last in
    let s = run_stands low high ts first count r.head r.last n r.many head_at last_at in
    let some = placed_some q.placed in
    let a : first ≡ m = one_step ts first m low high r.head y r.head d n head_at i (omega arith) (omega arith) q.from q.to (omega (arith, r.from_is, e, some)) (omega (arith, r.from_is, e, s.head_some)) in
    let b : first + count - 1 ≡ m = one_step ts (first + count - 1) m low high r.last y r.last d n last_at i (omega arith) (omega arith) q.from q.to (omega (arith, r.to_is, f, s.last_some)) (omega (arith, r.to_is, f, some)) in
    omega (arith, a, b, r.many)

-- neighbouring statements of a block below the tree of a number
record Descended (ts : SpannedTrees) (k m : ℕ) (ks : List ℕ) (first count from to : ℕ) (y : SpannedTree) : Type 0 where
  same : k ≡ m
  run : RunIn (spanned_children y) ks first count from to
  strict : suc (begin_of y) ≤ from

-- they are below the tree that holds a node which they overlap
descend : (ts : SpannedTrees) (k m : ℕ) (ks : List ℕ) (low high first count from to : ℕ) (y d : SpannedTree) → Nodes low high ts → RunIn ts (k ∷ ks) first count from to → spanned_nth ts m ≡ Some y → Inside y d → begin_of d ≡ from → Descended ts k m ks first count from to y
descend ts k m ks low high first count from to y d n r i q e =
    let b = block_below ts k ks r.nodes r.of_path in
    let x = node_of low high k ts b.tree n b.is in
    let s = below_stands r b x.placed in
    let some = placed_some q.placed in
    let same : k ≡ m = one_step ts k m low high b.tree y r.head d n b.is i (omega (arith, s.from)) (omega (arith, s.order, s.last_some, s.to)) q.from q.to (omega (arith, r.from_is, e, some)) (omega (arith, r.from_is, e, s.head_some)) in
    let nths : Some b.tree ≡ Some y = sym b.is ∙ ap (spanned_nth ts) same ∙ i in
    let trees : b.tree ≡ y = cc in
    record { same = same; run = subst (λ t. RunIn (spanned_children t) ks first count from to) trees (run_below r b); strict = subst (λ t. suc (begin_of t) ≤ from) trees (omega (arith, s.from, r.from_is)) }

-- neighbouring statements stand where no node stands
run_not_node : (ms : List ℕ) (m : ℕ) (p : List ℕ) (ts : SpannedTrees) (low high first count from to : ℕ) (y d : SpannedTree) → Nodes low high ts → RunIn ts p first count from to → spanned_nth ts m ≡ Some y → IsPlaced y → spanned_part y ms ≡ Some d → begin_of d ≡ from → end_of d ≡ to → ⊥
run_not_node [] m [] ts low high first count from to y d n r i placed leads e f = top_run ts m low high first count from to y d n r i (part_inside [] y d placed leads) e f
run_not_node (k ∷ ks) m [] ts low high first count from to y d n r i placed leads e f = top_run ts m low high first count from to y d n r i (part_inside (k ∷ ks) y d placed leads) e f
run_not_node [] m (q ∷ qs) ts low high first count from to y d n r i placed leads e f =
    let s = descend ts q m qs low high first count from to y d n r i (part_inside [] y d placed leads) e in
    let same : y ≡ d = cc in
    omega (arith, s.strict, e, ap begin_of same)
run_not_node (k ∷ ks) m (q ∷ qs) ts low high first count from to y d n r i placed leads e f =
    let s = descend ts q m qs low high first count from to y d n r i (part_inside (k ∷ ks) y d placed leads) e in
    let z = step_of (spanned_children y) k ks d leads in
    let c = children_nodes y placed in
    let x = node_of (begin_of y) (end_of y) k (spanned_children y) z.child c z.is in
    run_not_node ks k qs (spanned_children y) (begin_of y) (end_of y) first count from to z.child d c s.run z.is x.placed z.leads e f

-- a node to which a path leads is none of neighbouring statements
pub run_or_node : (ts : SpannedTrees) (low high : ℕ) (p path : List ℕ) (first count from to : ℕ) (d : SpannedTree) → AreBetween low high ts → AllPlaced ts → RunIn ts p first count from to → spanned_among ts path ≡ Some d → begin_of d ≡ from → end_of d ≡ to → ⊥
run_or_node ts low high p [] first count from to d b a r leads e f = cc
run_or_node ts low high p (k ∷ ks) first count from to d b a r leads e f =
    let z = step_of ts k ks d leads in
    let n : Nodes low high ts = record { between = b; placed = a } in
    let x = node_of low high k ts z.child n z.is in
    run_not_node ks k p ts low high first count from to z.child d n r z.is x.placed z.leads e f

-- two runs of neighbouring statements are one
pub record SameRun (p q : List ℕ) (first second count other : ℕ) : Type 0 where
  pub path : p ≡ q
  pub begins : first ≡ second
  pub counts : count ≡ other

-- a run of the list itself, and one of a block below it
top_or_below : (ts : SpannedTrees) (low high k : ℕ) (ks : List ℕ) (first second count other from to : ℕ) → Nodes low high ts → RunIn ts [] first count from to → RunIn ts (k ∷ ks) second other from to → ⊥
top_or_below ts low high k ks first second count other from to n r q =
    let b = block_below ts k ks q.nodes q.of_path in
    let x = node_of low high k ts b.tree n b.is in
    let s = below_stands q b x.placed in
    let same : ts ≡ r.nodes = cc in
    let head_at : spanned_nth ts first ≡ Some r.head = ap (λ ns. spanned_nth ns first) same ∙ r.at_first in
    let last_at : spanned_nth ts (first + count - 1) ≡ Some r.last = ap (λ ns. spanned_nth ns (first + count - 1)) same ∙ r.at_last in
    let t = run_stands low high ts first count r.head r.last n r.many head_at last_at in
    let a : first ≡ k = one_step ts first k low high r.head b.tree r.head q.head n head_at b.is (omega arith) (omega arith) (omega (arith, s.from)) (omega (arith, s.order, s.last_some, s.to)) (omega (arith, r.from_is, q.from_is, s.head_some)) (omega (arith, r.from_is, q.from_is, t.head_some)) in
    let z : first + count - 1 ≡ k = one_step ts (first + count - 1) k low high r.last b.tree r.last q.last n last_at b.is (omega arith) (omega arith) (omega (arith, s.from, s.head_some, s.order)) s.to (omega (arith, r.to_is, q.to_is, t.last_some)) (omega (arith, r.to_is, q.to_is, s.last_some)) in
    omega (arith, a, z, r.many)

-- two runs of the list itself
top_runs : (ts : SpannedTrees) (low high first second count other from to : ℕ) → Nodes low high ts → RunIn ts [] first count from to → RunIn ts [] second other from to → SameRun [] [] first second count other
top_runs ts low high first second count other from to n r q =
    let same : ts ≡ r.nodes = cc in
    let same' : ts ≡ q.nodes = cc in
    let head_at : spanned_nth ts first ≡ Some r.head = ap (λ ns. spanned_nth ns first) same ∙ r.at_first in
    let last_at : spanned_nth ts (first + count - 1) ≡ Some r.last = ap (λ ns. spanned_nth ns (first + count - 1)) same ∙ r.at_last in
    let head_at' : spanned_nth ts second ≡ Some q.head = ap (λ ns. spanned_nth ns second) same' ∙ q.at_first in
    let last_at' : spanned_nth ts (second + other - 1) ≡ Some q.last = ap (λ ns. spanned_nth ns (second + other - 1)) same' ∙ q.at_last in
    let t = run_stands low high ts first count r.head r.last n r.many head_at last_at in
    let t' = run_stands low high ts second other q.head q.last n q.many head_at' last_at' in
    let a : first ≡ second = one_step ts first second low high r.head q.head r.head q.head n head_at head_at' (omega arith) (omega arith) (omega arith) (omega arith) (omega (arith, r.from_is, q.from_is, t'.head_some)) (omega (arith, r.from_is, q.from_is, t.head_some)) in
    let z : first + count - 1 ≡ second + other - 1 = one_step ts (first + count - 1) (second + other - 1) low high r.last q.last r.last q.last n last_at last_at' (omega arith) (omega arith) (omega arith) (omega arith) (omega (arith, r.to_is, q.to_is, t.last_some)) (omega (arith, r.to_is, q.to_is, t'.last_some)) in
    record { path = refl; begins = a; counts = omega (arith, a, z, r.many, q.many) }

-- neighbouring statements from one place up to another are the same
one_run : (p q : List ℕ) (ts : SpannedTrees) (low high first second count other from to : ℕ) → Nodes low high ts → RunIn ts p first count from to → RunIn ts q second other from to → SameRun p q first second count other
one_run [] [] ts low high first second count other from to n r q = top_runs ts low high first second count other from to n r q
one_run [] (m ∷ ms) ts low high first second count other from to n r q = absurd (top_or_below ts low high m ms first second count other from to n r q)
one_run (k ∷ ks) [] ts low high first second count other from to n r q = absurd (top_or_below ts low high k ks second first other count from to n q r)
one_run (k ∷ ks) (m ∷ ms) ts low high first second count other from to n r q =
    let b = block_below ts m ms q.nodes q.of_path in
    let y = node_of low high m ts b.tree n b.is in
    let s = below_stands q b y.placed in
    let head : Inside b.tree q.head = record { placed = head_placed q b y.placed; from = omega (arith, s.from); to = omega (arith, s.order, s.last_some, s.to) } in
    let d = descend ts k m ks low high first count from to b.tree q.head n r b.is head q.from_is in
    let rest = one_run ks ms (spanned_children b.tree) (begin_of b.tree) (end_of b.tree) first second count other from to (children_nodes b.tree y.placed) d.run (run_below q b) in
    record { path = λ v. d.same v ∷ rest.path v; begins = rest.begins; counts = rest.counts }

-- the same in a list of trees that stand in order
pub one_run_among : (ts : SpannedTrees) (low high : ℕ) (p q : List ℕ) (first second count other from to : ℕ) → AreBetween low high ts → AllPlaced ts → RunIn ts p first count from to → RunIn ts q second other from to → SameRun p q first second count other
one_run_among ts low high p q first second count other from to b a r s = one_run p q ts low high first second count other from to (record { between = b; placed = a }) r s
