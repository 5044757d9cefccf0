-- Tests on numbers, and facts that they decide.
use Rattle.std.proofs.Common.{◌≡◌, ℕ, Bool, true, false, refl, sym, ap, ◌∙◌}
use Rattle.std.specs.Prelude.{nat_eq, IsTrue, ◌↔◌}
use Rattle.std.proofs.lemmas.Bool.{eqb-true, eq-eqb}
use Rattle.tree_model.specs.Tree.{LiteralOf}
use Rattle.same_trees.specs.SameTrees.{same_literal}
use Rattle.same_trees.proofs.Told.{literal_told, literal_refl}

-- two tests of one fact
pub one_test : (a b : Bool) → (a ≡ true → b ≡ true) → (b ≡ true → a ≡ true) → a ≡ b
one_test true b f g = sym (f refl)
one_test false true f g = g refl
one_test false false f g = refl

-- numbers are told apart
pub number_refl : (k : ℕ) → nat_eq k k ≡ true
number_refl k = eq-eqb k k refl

pub number_told : (j k : ℕ) → nat_eq j k ≡ true → j ≡ k
number_told j k e = eqb-true j k e

-- so are literals over numbers
pub literal_test : (b : Bool) (k l : LiteralOf ℕ) → IsTrue b ↔ (k ≡ l) → b ≡ same_literal nat_eq k l
literal_test b k l h =
    one_test b (same_literal nat_eq k l)
    (λ e. ap (same_literal nat_eq k) (sym (h.0 e)) ∙ literal_refl nat_eq number_refl k)
    (λ e. h.1 (literal_told nat_eq number_told k l e))
