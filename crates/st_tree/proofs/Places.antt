-- Trees of lists by number.
use Rattle.std.proofs.Common.{◌≡◌, ℕ, zero, suc, ◌+◌, ◌-◌, ◌<◌, ◌≤◌, List, [], ◌∷◌, length, refl, sym, ◌∙◌, ap, arith, Some, None, slice_get, option_map}
use Rattle.tree_model.specs.Tree.{TreeOf, TreesOf, trees_of}
use Rattle.tree_model.specs.Path.{append, count, nth, statement_trees}
use Rattle.tree_model.proofs.Children.{nth-append_left, nth-append_right}
use Rattle.st_tree.specs.View.{statements_of}
use Rattle.st_tree.specs.declared.tree.Statement.{Statement}

-- a tree of a list
pub nth-trees_of : (xs : List (TreeOf ℕ)) (k : ℕ) → nth (trees_of xs) k ≡ slice_get xs k
nth-trees_of [] k = refl
nth-trees_of (x ∷ xs) zero = refl
nth-trees_of (x ∷ xs) (suc k) = nth-trees_of xs k

-- as many trees as the list has
pub count-trees_of : (xs : List (TreeOf ℕ)) → count (trees_of xs) ≡ length xs
count-trees_of [] = refl
count-trees_of (x ∷ xs) = omega (arith, count-trees_of xs)

-- the node of a statement
pub nth-statements_of : (xs : List Statement) (k : ℕ) → nth (statement_trees (statements_of xs)) k ≡ option_map (λ s. s.node) (slice_get xs k)
nth-statements_of [] k = refl
nth-statements_of (x ∷ xs) zero = refl
nth-statements_of (x ∷ xs) (suc k) = nth-statements_of xs k

-- the node of a statement that is there
pub nth-statements_of_some : (xs : List Statement) (k : ℕ) (s : Statement) → Some s ≡ slice_get xs k → Some s.node ≡ nth (statement_trees (statements_of xs)) k
nth-statements_of_some xs k s e = ap (option_map (λ (t : Statement). t.node)) e ∙ sym (nth-statements_of xs k)

-- no statement is there
pub nth-statements_of_none : (xs : List Statement) (k : ℕ) → None ≡ slice_get xs k → None ≡ nth (statement_trees (statements_of xs)) k
nth-statements_of_none xs k e = ap (option_map (λ (t : Statement). t.node)) e ∙ sym (nth-statements_of xs k)

-- an argument of a number is among the first message's
pub argument_here : (xs : List (TreeOf ℕ)) (us : TreesOf ℕ) (k n : ℕ) → n ≡ length xs → k < n → nth (append (trees_of xs) us) k ≡ nth (trees_of xs) k
argument_here xs us k n e h = nth-append_left (trees_of xs) us k (omega (arith, count-trees_of xs))

-- or among the others'
pub argument_later : (xs : List (TreeOf ℕ)) (us : TreesOf ℕ) (k n : ℕ) → n ≡ length xs → n ≤ k → nth (append (trees_of xs) us) k ≡ nth us (k - n)
argument_later xs us k n e h = nth-append_right (trees_of xs) us k (k - n) (omega (arith, count-trees_of xs))
