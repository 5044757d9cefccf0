-- Statements of two lists, one after the other.
use Rattle.std.proofs.Common.{◌≡◌, ℕ, List, [], ◌∷◌, ◌++◌, refl, ap, ◌∙◌}
use Rattle.tree_model.specs.Tree.{TreeOf, StatementsOf, no_statements, more_statements}
use Rattle.st_tree.specs.declared.tree.Statement.{Statement}
use Rattle.st_tree.specs.View.{statements_of}
use Rattle.command_model.specs.Sequences.{joined, single}

pub joined_append : (xs ys : List Statement) → statements_of (xs ++ ys) ≡ joined (statements_of xs) (statements_of ys)
joined_append [] ys = refl
joined_append (x ∷ xs) ys = ap (more_statements x.comments x.node) (joined_append xs ys)

pub joined_joined : (xs ys zs : StatementsOf ℕ) → joined (joined xs ys) zs ≡ joined xs (joined ys zs)
joined_joined no_statements ys zs = refl
joined_joined (more_statements c t xs) ys zs = ap (more_statements c t) (joined_joined xs ys zs)

-- one more
pub joined_single : (xs : List Statement) (t : TreeOf ℕ) → statements_of (xs ++ record { comments = []; node = t } ∷ []) ≡ joined (statements_of xs) (single t)
joined_single xs t = joined_append xs (record { comments = []; node = t } ∷ [])

pub ruleset joined_lemmas = (joined_append, joined_joined, joined_single)

-- statements, one more, and the rest
pub joined-three : (before one two all A B : List Statement) (t : TreeOf ℕ) (s r : StatementsOf ℕ) → before ≡ [] → one ≡ before ++ A → statements_of A ≡ s → statements_of two ≡ joined (statements_of one) (single t)
    → all ≡ two ++ B → statements_of B ≡ r → statements_of all ≡ joined s (joined (single t) r)
joined-three before one two all A B t s r e f g h i k =
    ap statements_of i
    ∙ joined_append two B
    ∙ (λ j. joined (h j) (k j))
    ∙ joined_joined (statements_of one) (single t) r
    ∙ (λ j. joined (statements_of (f j)) (joined (single t) r))
    ∙ (λ j. joined (statements_of (e j ++ A)) (joined (single t) r))
    ∙ (λ j. joined (g j) (joined (single t) r))
