-- What bindings hold of which parts are taken.
use Rattle.std.specs.Prelude.{◌≡◌, ℕ, List, [], ◌∷◌, MatchOption}
use Rattle.pattern_model.specs.Bindings.{BindingOf}
use Rattle.patterns.specs.View.{meta_of}
use Rattle.pattern_match.specs.Bound.{bound_of}
use Rattle.filled_patterns.specs.declared.bindings.Binding.{Binding}

-- a binding, or its metavariable where what it is bound to is taken
pub record HoldsOne (b : BindingOf ℕ) (s : Binding) : Type 0 where
  pub meta : meta_of s.meta ≡ b.meta
  pub bound : MatchOption s.bound (Unit {0}) (λ x. bound_of x ≡ b.bound)

-- bindings in turn
abbrev pub Holds : List (BindingOf ℕ) → List Binding → Type 0
Holds [] [] = Unit {0}
Holds [] (s ∷ ss) = ⊥
Holds (b ∷ bs) [] = ⊥
Holds (b ∷ bs) (s ∷ ss) = HoldsOne b s × Holds bs ss

-- what was held is held, or taken
abbrev pub Leaves : List Binding → List Binding → Type 0
Leaves old new = (bs : List (BindingOf ℕ)) → Holds bs old → Holds bs new
