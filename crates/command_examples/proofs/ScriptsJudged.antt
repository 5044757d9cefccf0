-- The examples are as the definitions have them.
use Rattle.std.proofs.Common.{◌≡◌, List, [], ◌∷◌, map, refl}
use Rattle.scope_model.specs.SpecialNames.{is_pseudo_variable}
use Rattle.st_kernel.specs.Selectors.{is_reflective_selector, is_reserved_selector, is_control}
use Rattle.command_examples.specs.Scripts.{Row, outcome_of, AllJudged, undoings, composites}

-- rows are right whose outcomes are those that stand in them
all_judged : (rs : List Row) → map outcome_of rs ≡ map (λ (r : Row). r.outcome) rs → AllJudged rs
all_judged [] e = tt
all_judged (r ∷ rs) e =
    let first : outcome_of r ≡ r.outcome = cc in
    let others : map outcome_of rs ≡ map (λ (r : Row). r.outcome) rs = cc in
    (first, all_judged rs others)

pub judges_undoings : AllJudged undoings
unfolding is_pseudo_variable is_reflective_selector is_reserved_selector is_control
judges_undoings = all_judged undoings refl

pub judges_composites : AllJudged composites
unfolding is_pseudo_variable is_reflective_selector is_reserved_selector is_control
judges_composites = all_judged composites refl
