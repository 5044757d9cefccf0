-- The examples are as the definitions have them.
use Rattle.std.proofs.Common.{◌≡◌, List, [], ◌∷◌, map, false, refl}
use Rattle.scope_model.specs.SpecialNames.{is_pseudo_variable}
use Rattle.st_kernel.specs.Selectors.{is_reflective_selector, is_reserved_selector, is_control}
use Rattle.command_examples.specs.Examples.{Row, verdict_of, AllJudged, classes, instance_variables, class_variables, methods, moves}
use Rattle.command_examples.specs.Refused.{reflections, names, class_rows, new_variables, used_variables, method_rows, move_rows, reached_rows}
use Rattle.command_examples.specs.Orders.{order_rows, Asking, answer_of, AllFalse, missing}
use Rattle.command_examples.specs.Listed.{Listing, listed, AllListed, class_listings, method_listings}
use Rattle.command_examples.specs.Compared.{CommentsDoNotCount, AreTreesApart, AreMethodsApart}

-- rows are right whose verdicts are those that stand in them
all_judged : (rs : List Row) → map verdict_of rs ≡ map (λ (r : Row). r.verdict) rs → AllJudged rs
all_judged [] e = tt
all_judged (r ∷ rs) e =
    let first : verdict_of r ≡ r.verdict = cc in
    let others : map verdict_of rs ≡ map (λ (r : Row). r.verdict) rs = cc in
    (first, all_judged rs others)

-- conditions are false whose answers are
all_false : (qs : List Asking) → map answer_of qs ≡ map (λ (q : Asking). false) qs → AllFalse qs
all_false [] e = tt
all_false (q ∷ qs) e =
    let first : answer_of q ≡ false = cc in
    let others : map answer_of qs ≡ map (λ (q : Asking). false) qs = cc in
    (first, all_false qs others)

-- lists are right that are those that stand in them
all_listed : (ls : List Listing) → map listed ls ≡ map (λ (l : Listing). l.conditions) ls → AllListed ls
all_listed [] e = tt
all_listed (l ∷ ls) e =
    let first : listed l ≡ l.conditions = cc in
    let others : map listed ls ≡ map (λ (l : Listing). l.conditions) ls = cc in
    (first, all_listed ls others)

pub judges_classes : AllJudged classes
unfolding is_pseudo_variable is_reflective_selector is_reserved_selector is_control
judges_classes = all_judged classes refl

pub judges_instance_variables : AllJudged instance_variables
unfolding is_pseudo_variable is_reflective_selector is_reserved_selector is_control
judges_instance_variables = all_judged instance_variables refl

pub judges_class_variables : AllJudged class_variables
unfolding is_pseudo_variable is_reflective_selector is_reserved_selector is_control
judges_class_variables = all_judged class_variables refl

pub judges_methods : AllJudged methods
unfolding is_pseudo_variable is_reflective_selector is_reserved_selector is_control
judges_methods = all_judged methods refl

pub judges_moves : AllJudged moves
unfolding is_pseudo_variable is_reflective_selector is_reserved_selector is_control
judges_moves = all_judged moves refl

pub judges_reflections : AllJudged reflections
unfolding is_pseudo_variable is_reflective_selector is_reserved_selector is_control
judges_reflections = all_judged reflections refl

pub judges_names : AllJudged names
unfolding is_pseudo_variable is_reflective_selector is_reserved_selector is_control
judges_names = all_judged names refl

pub judges_class_rows : AllJudged class_rows
unfolding is_pseudo_variable is_reflective_selector is_reserved_selector is_control
judges_class_rows = all_judged class_rows refl

pub judges_new_variables : AllJudged new_variables
unfolding is_pseudo_variable is_reflective_selector is_reserved_selector is_control
judges_new_variables = all_judged new_variables refl

pub judges_used_variables : AllJudged used_variables
unfolding is_pseudo_variable is_reflective_selector is_reserved_selector is_control
judges_used_variables = all_judged used_variables refl

pub judges_method_rows : AllJudged method_rows
unfolding is_pseudo_variable is_reflective_selector is_reserved_selector is_control
judges_method_rows = all_judged method_rows refl

pub judges_move_rows : AllJudged move_rows
unfolding is_pseudo_variable is_reflective_selector is_reserved_selector is_control
judges_move_rows = all_judged move_rows refl

pub judges_reached_rows : AllJudged reached_rows
unfolding is_pseudo_variable is_reflective_selector is_reserved_selector is_control
judges_reached_rows = all_judged reached_rows refl

pub judges_order_rows : AllJudged order_rows
unfolding is_pseudo_variable is_reflective_selector is_reserved_selector is_control
judges_order_rows = all_judged order_rows refl

pub denies_missing : AllFalse missing
unfolding is_pseudo_variable is_reflective_selector is_reserved_selector is_control
denies_missing = all_false missing refl

pub lists_class_listings : AllListed class_listings
lists_class_listings = all_listed class_listings refl

pub lists_method_listings : AllListed method_listings
lists_method_listings = all_listed method_listings refl

pub overlooks_comments : CommentsDoNotCount
overlooks_comments = (refl, refl)

pub tells_trees_apart : AreTreesApart
tells_trees_apart = (refl, refl)

pub tells_methods_apart : AreMethodsApart
tells_methods_apart = (refl, refl)
