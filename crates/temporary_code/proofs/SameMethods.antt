-- Methods are the same but for comments where the blocks with their arguments and bodies are, and the rest is the same.
use Rattle.std.proofs.Common.{◌≡◌, ◌⊎◌, inl, inr, ℕ, Bool, true, false, refl, sym, ap, ◌∙◌, true≢false}
use Rattle.std.specs.Prelude.{nat_eq, IsTrue, ◌↔◌, ◌&&◌}
use Rattle.std.specs.Option.{option_eq}
use Rattle.std.specs.Cmp.Lexicographic.{pointwise}
use Rattle.std.proofs.Math.Dec.{eqb}
use Rattle.std.proofs.lemmas.Bool.Decides.{eqb_tells}
use Rattle.tree_model.specs.Tree.{MethodOf}
use Rattle.tree_model.specs.Bare.{bare}
use Rattle.same_trees.specs.SameTrees.{same_tree, same_statements, same_code}
use Rattle.same_trees.proofs.Told.{tree_told, tree_same}
use Rattle.temporary_code.specs.Block.{as_block}

-- two tests of one fact
one_test : (a b : Bool) → (a ≡ true → b ≡ true) → (b ≡ true → a ≡ true) → a ≡ b
one_test true b f g = sym (f refl)
one_test false true f g = g refl
one_test false false f g = refl

same-number : (k : ℕ) → eqb k k ≡ true
same-number k = by (eqb_tells k k)
  where
    by : ((eqb k k ≡ true) × (k ≡ k)) ⊎ ((eqb k k ≡ false) × (k ≡ k → ⊥)) → eqb k k ≡ true
    by (inl e) = e.0
    by (inr e) = absurd (e.1 refl)

number-told : (j k : ℕ) → eqb j k ≡ true → j ≡ k
number-told j k h = by (eqb_tells j k)
  where
    by : ((eqb j k ≡ true) × (j ≡ k)) ⊎ ((eqb j k ≡ false) × (j ≡ k → ⊥)) → j ≡ k
    by (inl e) = e.1
    by (inr e) = absurd (true≢false (sym h ∙ e.0))

-- the primitives are looked at before the arguments, or behind them
moved : (a p x r : Bool) → ((a && p) && (x && r)) ≡ (a && (x && (p && r)))
moved false p x r = refl
moved true true x r = refl
moved true false true r = refl
moved true false false r = refl

pub same-methods : (m n : MethodOf ℕ) (b : Bool) → IsTrue b ↔ (bare (as_block m) ≡ bare (as_block n)) → ((nat_eq m.selector n.selector && option_eq nat_eq m.primitive n.primitive) && b) ≡ same_code nat_eq m n
same-methods m n b h =
    ap (λ (c : Bool). (nat_eq m.selector n.selector && option_eq nat_eq m.primitive n.primitive) && c)
    (one_test b (same_tree nat_eq (as_block m) (as_block n)) (λ e. tree_same nat_eq same-number (as_block m) (as_block n) (h.0 e)) (λ e. h.1 (tree_told nat_eq number-told (as_block m) (as_block n) e)))
    ∙ moved (nat_eq m.selector n.selector) (option_eq nat_eq m.primitive n.primitive) (pointwise nat_eq m.arguments n.arguments) (pointwise nat_eq m.body.temporaries n.body.temporaries && same_statements nat_eq m.body.statements n.body.statements)
