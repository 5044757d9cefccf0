-- Facts of the nodes below a node, each by the path that leads to it.
use Rattle.std.proofs.Common.{◌≡◌, ℕ, zero, suc, ◌+◌, List, ◌∷◌, Option, Some, None, ap, ◌∙◌, subst, arith}
use Rattle.std.specs.Prelude.{option_and_then}
use Rattle.tree_model.specs.Tree.{TreeOf, TreesOf, no_trees, more_trees}
use Rattle.tree_model.specs.Path.{append, count, nth, part_at, part_among, children}
use Rattle.run_model.specs.Values.{Name}
use Rattle.resolved_model.proofs.ResolvingLemmas.{nth-right}

-- a fact of a node to which a path leads
abbrev pub FactAt : Type 1
FactAt = List ℕ → TreeOf Name → Type 0

-- the same on from the node to which one step leads
abbrev pub onward : ℕ → FactAt → FactAt
onward k At path u = At (k ∷ path) u

-- so it is at each node that a path leads to from a node
abbrev pub Below : FactAt → TreeOf Name → Type 0
Below At t = (path : List ℕ) (u : TreeOf Name) → part_at t path ≡ Some u → At path u

-- and from nodes to which the steps from k on lead
abbrev pub Among : FactAt → TreesOf Name → ℕ → Type 0
Among At ts k = (j m : ℕ) (path : List ℕ) (u : TreeOf Name) → m ≡ k + j → option_and_then (λ c. part_at c path) (nth ts j) ≡ Some u → At (m ∷ path) u

-- nothing is no thing
nothing-there : (u : TreeOf Name) → None ≡ Some u → ⊥
nothing-there u e = cc

-- what stands below the first of two lists stands below both
left-part : (g : TreeOf Name → Option (TreeOf Name)) (ts us : TreesOf Name) (j : ℕ) (u : TreeOf Name) → option_and_then g (nth ts j) ≡ Some u → option_and_then g (nth (append ts us) j) ≡ Some u
left-part g no_trees us j u e = absurd (nothing-there u e)
left-part g (more_trees t ts) us zero u e = e
left-part g (more_trees t ts) us (suc j) u e = left-part g ts us j u e

module _ (At : FactAt) where
  -- nodes to which the steps from 0 on lead
  pub among-first : (ts : TreesOf Name) → ((path : List ℕ) (u : TreeOf Name) → part_among ts path ≡ Some u → At path u) → Among At ts 0
  among-first ts h j m path u e q =
      let here : j ≡ m = omega (arith, e) in
      subst (λ x. At (x ∷ path) u) here (h (j ∷ path) u q)

  -- the nodes right below a node
  pub below-children : (t : TreeOf Name) → Below At t → Among At (children t) 0
  below-children t h j m path u e q =
      let here : j ≡ m = omega (arith, e) in
      subst (λ x. At (x ∷ path) u) here (h (j ∷ path) u q)

  -- the first of nodes
  pub first-below : (t : TreeOf Name) (ts : TreesOf Name) (k : ℕ) → Among At (more_trees t ts) k → Below (onward k At) t
  first-below t ts k h path u q = h 0 k path u (omega arith) q

  -- the other nodes
  pub others-below : (t : TreeOf Name) (ts : TreesOf Name) (k : ℕ) → Among At (more_trees t ts) k → Among At ts (suc k)
  others-below t ts k h j m path u e q = h (suc j) m path u (omega (arith, e)) q

  -- the arguments of the first message
  pub first-message : (ts us : TreesOf Name) (k : ℕ) → Among At (append ts us) k → Among At ts k
  first-message ts us k h j m path u e q = h j m path u e (left-part (λ c. part_at c path) ts us j u q)

  -- the arguments of the other messages
  pub other-messages : (ts us : TreesOf Name) (k : ℕ) → Among At (append ts us) k → Among At us (k + count ts)
  other-messages ts us k h j m path u e q = h (count ts + j) m path u (omega (arith, e)) (ap (option_and_then (λ c. part_at c path)) (nth-right ts us j) ∙ q)
