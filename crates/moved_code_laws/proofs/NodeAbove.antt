-- The node above a place becomes no control send, where the condition on it says so.
use Rattle.std.proofs.Common.{◌≡◌, ℕ, zero, suc, ◌-◌, List, [], ◌∷◌, length, take, Option, Some, None, refl, sym, ap, ◌∙◌, subst, arith}
use Rattle.std.specs.Prelude.{Bool, true, false, not, ◌&&◌, slice_get, option_and_then}
use Rattle.std.specs.Option.{option_map_or}
use Rattle.tree_model.specs.Tree.{TreeOf, MethodOf}
use Rattle.tree_model.specs.Path.{nth, statement_trees, child, part_at, part_in, with_child}
use Rattle.scope_model.specs.Control.{is_control}
use Rattle.scope_model.specs.SpecialNames.{control_form}
use Rattle.image_model.specs.ImageNames.{OptionNames}
use Rattle.run_model.specs.Values.{Name}
use Rattle.unfolded_calls.proofs.Running.{none-some}
use Rattle.unfolded_places.specs.PartsReplaced.{StaysMessage, StaysMessageAmong}
use Rattle.unfolded_places.proofs.InlinedOne.{child-again}
use Rattle.command_model.specs.InlineConditions.{makes_control}

-- what is put where a path leads
module _ (u : TreeOf Name) where
  -- whether the node that is above becomes a control send by it, at the step of a number
  abbrev pub becomes_control : Option ℕ → TreeOf Name → Bool
  becomes_control step above = not (is_control control_form above) && option_map_or (λ k. is_control control_form (with_child above k u)) step false

  -- a node that is no control send stays none
  stays-none : (b c : Bool) → (not b && c) ≡ false → b ≡ false → c ≡ false
  stays-none true c h e = absurd (cc)
  stays-none false c h e = h

  pub stays-message : (n : ℕ) (path : List ℕ) (t v : TreeOf Name) → length path ≡ suc n → part_at t path ≡ Some v → option_map_or (becomes_control (slice_get path n)) (part_at t (take n path)) false ≡ false → StaysMessage t path v u
  stays-message n [] t v l e h = tt
  stays-message zero (k ∷ []) t v l e h = λ q. stays-none (is_control control_form t) (is_control control_form (with_child t k u)) h (ap (is_control control_form) (sym (child-again t k v (one (child t k) e))) ∙ q)
    where
      one : (o : Option (TreeOf Name)) → option_and_then (λ c. part_at c []) o ≡ Some v → o ≡ Some v
      one None e = none-some e
      one (Some c) e = e
  stays-message (suc n) (k ∷ []) t v l e h = absurd (omega (arith, l))
  stays-message zero (k ∷ j ∷ ks) t v l e h = absurd (omega (arith, l))
  stays-message (suc n) (k ∷ j ∷ ks) t v l e h = by (child t k) e h (λ c. stays-message n (j ∷ ks) c v (omega (arith, l)))
    where
      by : (o : Option (TreeOf Name)) → option_and_then (λ c. part_at c (j ∷ ks)) o ≡ Some v → option_map_or (becomes_control (slice_get (j ∷ ks) n)) (option_and_then (λ c. part_at c (take n (j ∷ ks))) o) false ≡ false →
          ((c : TreeOf Name) → part_at c (j ∷ ks) ≡ Some v → option_map_or (becomes_control (slice_get (j ∷ ks) n)) (part_at c (take n (j ∷ ks))) false ≡ false → StaysMessage c (j ∷ ks) v u) →
          OptionNames (λ c. StaysMessage c (j ∷ ks) v u) o
      by None e h ih = tt
      by (Some c) e h ih = ih c e h

  -- the same of a method
  pub stays-among : (m : MethodOf Name) (path : List ℕ) (v : TreeOf Name) → part_in m.body path ≡ Some v → makes_control control_form m path u ≡ false → StaysMessageAmong m.body.statements path v u
  stays-among m [] v e h = tt
  stays-among m (k ∷ []) v e h = by (nth (statement_trees m.body.statements) k)
    where
      by : (o : Option (TreeOf Name)) → OptionNames (λ c. StaysMessage c [] v u) o
      by None = tt
      by (Some c) = tt
  stays-among m (k ∷ j ∷ ks) v e h = by (nth (statement_trees m.body.statements) k) e (subst (λ n. option_map_or (becomes_control (slice_get (k ∷ j ∷ ks) n)) (part_in m.body (take n (k ∷ j ∷ ks))) false ≡ false) less h)
    where
      less : length (k ∷ j ∷ ks) - 1 ≡ suc (length ks)
      less = omega arith

      by : (o : Option (TreeOf Name)) → option_and_then (λ c. part_at c (j ∷ ks)) o ≡ Some v → option_map_or (becomes_control (slice_get (j ∷ ks) (length ks))) (option_and_then (λ c. part_at c (take (length ks) (j ∷ ks))) o) false ≡ false →
          OptionNames (λ c. StaysMessage c (j ∷ ks) v u) o
      by None e h = tt
      by (Some c) e h = stays-message (length ks) (j ∷ ks) c v refl e h
