-- Neighbouring statements.
use Rattle.std.proofs.Common.{◌≡◌, refl, ap, ℕ, zero, suc, ◌≤◌, List, [], ◌∷◌, length, take, drop, ◌-◌, arith, length-drop}
use Rattle.std.proofs.Math.Seq.{take-length}
use Rattle.tree_model.specs.Tree.{no_statements, more_statements}
use Rattle.scope_model.specs.FreeNames.{drop_statements, take_statements}
use Rattle.st_tree.specs.View.{statements_of}
use Rattle.st_tree.specs.declared.tree.Statement.{Statement}

-- all that is left
pub take-rest : (k : ℕ) (ss : List Statement) → take (length ss - k) (drop k ss) ≡ drop k ss
take-rest k ss = grind (arith, length-drop {A = Statement}, take-length {A = Statement})

-- without the first ones
pub statements_of-drop : (k : ℕ) (ss : List Statement) → statements_of (drop k ss) ≡ drop_statements k (statements_of ss)
statements_of-drop zero ss = refl
statements_of-drop (suc k) [] = refl
statements_of-drop (suc k) (s ∷ ss) = statements_of-drop k ss

-- there are not so many
pub drop_statements-all : (k : ℕ) (ss : List Statement) → length ss ≤ k → drop_statements k (statements_of ss) ≡ no_statements
drop_statements-all zero [] h = refl
drop_statements-all zero (s ∷ ss) h = absurd (omega arith)
drop_statements-all (suc k) [] h = refl
drop_statements-all (suc k) (s ∷ ss) h = drop_statements-all k ss (omega arith)

-- the first ones
pub statements_of-take : (k : ℕ) (ss : List Statement) → statements_of (take k ss) ≡ take_statements k (statements_of ss)
statements_of-take zero ss = refl
statements_of-take (suc k) [] = refl
statements_of-take (suc k) (s ∷ ss) = ap (more_statements s.comments s.node) (statements_of-take k ss)

-- there are not more
pub take_statements-all : (k : ℕ) (ss : List Statement) → length ss ≤ k → take_statements k (statements_of ss) ≡ statements_of ss
take_statements-all zero [] h = refl
take_statements-all zero (s ∷ ss) h = absurd (omega arith)
take_statements-all (suc k) [] h = refl
take_statements-all (suc k) (s ∷ ss) h = ap (more_statements s.comments s.node) (take_statements-all k ss (omega arith))

pub ruleset run_lemmas = (statements_of-drop, drop_statements-all, statements_of-take, take_statements-all)
