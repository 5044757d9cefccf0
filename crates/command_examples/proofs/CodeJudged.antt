-- The examples are as the definitions have them.
use Rattle.std.proofs.Common.{◌≡◌, List, [], ◌∷◌, map, refl}
use Rattle.scope_model.specs.SpecialNames.{is_pseudo_variable, control_form}
use Rattle.st_kernel.specs.Selectors.{is_reflective_selector, is_reserved_selector, is_control}
use Rattle.command_examples.specs.CodeRows.{Row, verdict_of, AllJudged, parameters, methods, temporaries}
use Rattle.command_examples.specs.CodeLists.{Listings, Stepped, Renamed}

-- rows are right whose verdicts are those that stand in them
all_judged : (rs : List Row) → map verdict_of rs ≡ map (λ (r : Row). r.verdict) rs → AllJudged rs
all_judged [] e = tt
all_judged (r ∷ rs) e =
    let first : verdict_of r ≡ r.verdict = cc in
    let others : map verdict_of rs ≡ map (λ (r : Row). r.verdict) rs = cc in
    (first, all_judged rs others)

pub judges_parameters : AllJudged parameters
unfolding is_pseudo_variable control_form is_reflective_selector is_reserved_selector is_control
judges_parameters = all_judged parameters refl

pub judges_methods : AllJudged methods
unfolding is_pseudo_variable control_form is_reflective_selector is_reserved_selector is_control
judges_methods = all_judged methods refl

pub judges_temporaries : AllJudged temporaries
unfolding is_pseudo_variable control_form is_reflective_selector is_reserved_selector is_control
judges_temporaries = all_judged temporaries refl

pub lists_conditions : Listings
lists_conditions = (refl, refl, refl)

pub lists_steps : Stepped
lists_steps = (refl, refl, refl)

pub lists_names : Renamed
lists_names = (refl, refl, refl, refl, refl)
