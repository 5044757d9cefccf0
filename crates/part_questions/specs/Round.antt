-- What a path enters on from the node of a statement.
use Rattle.std.specs.Prelude.{ℕ, ◌+◌, Bool, false, not, ◌&&◌, ◌||◌, nat_le, if◌then◌else◌, List, [], ◌∷◌}
use Rattle.std.specs.Option.{option_map_or}
use Rattle.tree_model.specs.Tree.{TreeOf}
use Rattle.tree_model.specs.Path.{child}
use Rattle.scope_model.specs.declared.local.ControlForm.{ControlForm}
use Rattle.scope_model.specs.Control.{is_block, steps_in_place}

-- whether it enters a closure to which so many steps lead at least; `depth` steps lead to the node, which is run in place or not
abbrev pub closure_round : (ℕ → ControlForm) → (from : ℕ) → (in_place : Bool) → (depth : ℕ) → TreeOf ℕ → List ℕ → Bool
closure_round form from in_place depth t [] = false
closure_round form from in_place depth t (k ∷ ks) =
    (nat_le from depth && (is_block t && not in_place)) || option_map_or (λ c. closure_round form from (steps_in_place form t k) (depth + 1) c ks) (child t k) false

-- how many steps lead to the innermost block that it enters, and `found` where it enters none
abbrev pub innermost_from : (found depth : ℕ) → TreeOf ℕ → List ℕ → ℕ
innermost_from found depth t [] = found
innermost_from found depth t (k ∷ ks) =
    option_map_or (λ c. innermost_from (if is_block t then depth else found) (depth + 1) c ks) (child t k) (if is_block t then depth else found)
