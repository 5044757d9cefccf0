-- Where paths lead.
use Rattle.std.proofs.Common.{◌≡◌, ℕ, List, [], ◌∷◌, ◌++◌, Option, Some, None, ap, ◌∙◌}
use Rattle.std.specs.Prelude.{Contains, option_and_then}
use Rattle.std.specs.List.{AllByRecursion}
use Rattle.std.proofs.lemmas.List.Elements.{All-weaker, All-contains_itself, recursion_from_All}
use Rattle.tree_model.specs.Tree.{TreeOf, SequenceOf}
use Rattle.tree_model.specs.Path.{nth, child, part_at, part_in, statement_trees}
use Rattle.tree_model.specs.Nodes.{Placed, nodes}
use Rattle.tree_model.proofs.NodesLemmas.{part_in-Contains}
use Rattle.tree_model.proofs.Parts.{part_at-append}

-- a path leads to a node
abbrev pub Leads : {N : Type 0} → SequenceOf N → List ℕ → Type 0
Leads {N} b path = (t : TreeOf N) × (part_in b path ≡ Some t)

-- so does the path of each node
pub nodes-lead : {N : Type 0} (b : SequenceOf N) → AllByRecursion (λ (e : Placed N). part_in b e.0 ≡ Some e.1) (nodes b)
nodes-lead {N} b =
    recursion_from_All (λ (e : Placed N). part_in b e.0 ≡ Some e.1) (nodes b)
    (All-weaker (Contains (nodes b)) (λ (e : Placed N). part_in b e.0 ≡ Some e.1) (λ e h. part_in-Contains b e.0 e.1 h) (nodes b) (All-contains_itself (nodes b)))

-- a path goes on below a node
pub leads-on : {N : Type 0} (b : SequenceOf N) (path rest : List ℕ) (t u : TreeOf N) → part_in b path ≡ Some t → part_at t rest ≡ Some u → part_in b (path ++ rest) ≡ Some u
leads-on b [] rest t u e f = absurd (cc)
leads-on {N} b (k ∷ ks) rest t u e f = by (nth (statement_trees b.statements) k) e
  where
    by : (o : Option (TreeOf N)) → option_and_then (λ c. part_at c ks) o ≡ Some t → option_and_then (λ c. part_at c (ks ++ rest)) o ≡ Some u
    by None g = absurd (cc)
    by (Some c) g = part_at-append c ks rest ∙ ap (option_and_then (λ d. part_at d rest)) g ∙ f

-- one step further
pub leads-child : {N : Type 0} (b : SequenceOf N) (path : List ℕ) (k : ℕ) (t u : TreeOf N) → part_in b path ≡ Some t → child t k ≡ Some u → part_in b (path ++ k ∷ []) ≡ Some u
leads-child {N} b path k t u e f = leads-on b path (k ∷ []) t u e (ap (option_and_then (λ (c : TreeOf N). Some c)) f)
