-- Answers of trees that are made, or not.
use Rattle.std.proofs.Common.{◌≡◌, ℕ, Bool, true, false, not, Option, None, Some, Result, option_map, refl, ap, subst, ◌∙◌}
use Rattle.std.specs.Prelude.{IfOk}
use Rattle.std.specs.Option.{option_map_or}
use Rattle.tree_model.specs.Tree.{MethodOf}
use Rattle.tree_model.specs.Normal.{normal}
use Rattle.command_model.specs.ParameterConditions.{is_low}

pub not-not : (b : Bool) → not (not b) ≡ b
not-not true = refl
not-not false = refl

-- whether there is a tree, and it is low
abbrev pub is_tree_low : Option (MethodOf ℕ) → Bool
is_tree_low o = option_map_or (λ (t : MethodOf ℕ). is_low t.body) o false

-- a tree that is made, in the form in which it is kept
pub low_made : (found made : Option (MethodOf ℕ)) → found ≡ option_map normal made → is_tree_low found ≡ option_map_or (λ (t : MethodOf ℕ). is_low (normal t).body) made false
low_made found made e = ap is_tree_low e ∙ by made
  where
    by : (o : Option (MethodOf ℕ)) → is_tree_low (option_map normal o) ≡ option_map_or (λ (t : MethodOf ℕ). is_low (normal t).body) o false
    by None = refl
    by (Some t) = refl

-- an answer that is another one
pub answer_is : {E : Type 0} (r : Result Bool E) (a b : Bool) → a ≡ b → IfOk r (λ is. is ≡ a) → IfOk r (λ is. is ≡ b)
answer_is r a b e h = subst (λ (x : Bool). IfOk r (λ is. is ≡ x)) e h
