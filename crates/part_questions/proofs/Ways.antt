-- One step more down a path.
use Rattle.std.proofs.Common.{◌≡◌, ℕ, suc, ◌+◌, ◌<◌, Bool, true, false, not, ◌&&◌, ◌||◌, nat_le, List, length, get_or, drop, sym, ap, ◌∙◌}
use Rattle.std.specs.Option.{option_map_or}
use Rattle.std.proofs.Math.Seq.{drop-cons}
use Rattle.tree_model.specs.Tree.{TreeOf}
use Rattle.tree_model.specs.Path.{child}
use Rattle.scope_model.specs.declared.local.ControlForm.{ControlForm}
use Rattle.scope_model.specs.Control.{is_block, steps_in_place}
use Rattle.part_questions.specs.Round.{closure_round}

-- a closure is here
pub round-here : (path : List ℕ) (i : ℕ) → i < length path → (form : ℕ → ControlForm) (in_place : Bool) (t : TreeOf ℕ) (from : ℕ) (r : Bool) → (nat_le from (i + 1) && (is_block t && not in_place)) ≡ true
    → closure_round form from in_place (i + 1) t (drop i path) ≡ r → true ≡ r
round-here path i h form in_place t from r f inv =
    (λ j. sym f j || option_map_or (λ c. closure_round form from (steps_in_place form t (get_or path i 0)) (i + 1 + 1) c (drop (suc i) path)) (child t (get_or path i 0)) false)
    ∙ ap (closure_round form from in_place (i + 1) t) (sym (drop-cons path i 0 h)) ∙ inv
