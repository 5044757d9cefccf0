-- Lists of different lengths have no equal trees.
use Rattle.std.proofs.Common.{◌≡◌, ℕ, List, [], ◌∷◌, length, refl, ap, suc}
use Rattle.tree_model.specs.Tree.{LiteralOf, literals_of, TreeOf, trees_of}
use Rattle.tree_model.specs.Bare.{bare_trees, bare_messages, bare_statements}
use Rattle.st_tree.specs.View.{messages_of, statements_of}
use Rattle.st_tree.specs.declared.tree.Message.{Message}
use Rattle.st_tree.specs.declared.tree.Statement.{Statement}

-- literals
pub length-literals_of : (xs ys : List (LiteralOf ℕ)) → literals_of xs ≡ literals_of ys → length xs ≡ length ys
length-literals_of [] [] e = refl
length-literals_of [] (y ∷ ys) e = cc
length-literals_of (x ∷ xs) [] e = cc
length-literals_of (x ∷ xs) (y ∷ ys) e = ap suc (length-literals_of xs ys cc)

-- trees without comments
pub length-bare_trees : (xs ys : List (TreeOf ℕ)) → bare_trees (trees_of xs) ≡ bare_trees (trees_of ys) → length xs ≡ length ys
length-bare_trees [] [] e = refl
length-bare_trees [] (y ∷ ys) e = cc
length-bare_trees (x ∷ xs) [] e = cc
length-bare_trees (x ∷ xs) (y ∷ ys) e = ap suc (length-bare_trees xs ys cc)

-- messages without comments
pub length-bare_messages : (xs ys : List Message) → bare_messages (messages_of xs) ≡ bare_messages (messages_of ys) → length xs ≡ length ys
length-bare_messages [] [] e = refl
length-bare_messages [] (y ∷ ys) e = cc
length-bare_messages (x ∷ xs) [] e = cc
length-bare_messages (x ∷ xs) (y ∷ ys) e = ap suc (length-bare_messages xs ys cc)

-- statements without comments
pub length-bare_statements : (xs ys : List Statement) → bare_statements (statements_of xs) ≡ bare_statements (statements_of ys) → length xs ≡ length ys
length-bare_statements [] [] e = refl
length-bare_statements [] (y ∷ ys) e = cc
length-bare_statements (x ∷ xs) [] e = cc
length-bare_statements (x ∷ xs) (y ∷ ys) e = ap suc (length-bare_statements xs ys cc)
