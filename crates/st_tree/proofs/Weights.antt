-- The weights of lists that grow at their ends.
use Rattle.std.proofs.Common.{◌≡◌, ℕ, ◌+◌, ◌≤◌, Bool, true, false, List, [], ◌∷◌, ◌++◌, ap, arith}
use Rattle.std.specs.Prelude.{if◌then◌else◌}
use Rattle.tree_model.specs.Tree.{TreeOf, trees_of}
use Rattle.tree_model.specs.Measure.{weight, trees_weight, messages_weight, statements_weight}
use Rattle.st_tree.specs.View.{messages_of, statements_of}
use Rattle.st_tree.specs.declared.tree.Message.{Message}
use Rattle.st_tree.specs.declared.tree.Statement.{Statement}

pub trees-last : (xs : List (TreeOf ℕ)) (x : TreeOf ℕ) → trees_weight (trees_of (xs ++ x ∷ [])) ≡ trees_weight (trees_of xs) + (weight x + 1)
trees-last [] x = omega arith
trees-last (y ∷ xs) x = omega (arith, trees-last xs x)

pub messages-last : (ms : List Message) (m : Message) → messages_weight (messages_of (ms ++ m ∷ [])) ≡ messages_weight (messages_of ms) + (trees_weight (trees_of m.arguments) + 1)
messages-last [] m = omega arith
messages-last (n ∷ ms) m = omega (arith, messages-last ms m)

pub statements-last : (ss : List Statement) (s : Statement) → statements_weight (statements_of (ss ++ s ∷ [])) ≡ statements_weight (statements_of ss) + (weight s.node + 1)
statements-last [] s = omega arith
statements-last (t ∷ ss) s = omega (arith, statements-last ss s)

-- no list is without weight
pub some-trees : (xs : List (TreeOf ℕ)) → 1 ≤ trees_weight (trees_of xs)
some-trees [] = omega arith
some-trees (x ∷ xs) = omega arith

-- a node is put at the end if there is room
pub pushed : (b : Bool) (xs : List (TreeOf ℕ)) (x : TreeOf ℕ) (ys : List (TreeOf ℕ)) → ys ≡ (if b then xs ++ x ∷ [] else xs) → trees_weight (trees_of ys) ≤ trees_weight (trees_of xs) + (weight x + 1)
pushed true xs x ys e = omega (arith, ap (λ (zs : List (TreeOf ℕ)). trees_weight (trees_of zs)) e, trees-last xs x)
pushed false xs x ys e = omega (arith, ap (λ (zs : List (TreeOf ℕ)). trees_weight (trees_of zs)) e)
