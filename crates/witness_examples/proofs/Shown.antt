-- The examples are as the definitions have them.
use Rattle.std.specs.Fmt.{digits}
use Rattle.std.proofs.Common.{◌≡◌, List, [], ◌∷◌, map, refl}
use Rattle.scope_model.specs.SpecialNames.{is_pseudo_variable, control_form}
use Rattle.st_kernel.specs.Selectors.{is_reflective_selector, is_reserved_selector, is_control}
use Rattle.witness_examples.specs.Examples.{Row, shown_of, AllShown, names, classes, methods, parts, messages, temporaries, heights, AreRulesShown, IsText}

-- rows are right whose witnesses are those that stand in them
all-shown : (rs : List Row) → map shown_of rs ≡ map (λ (r : Row). r.shown) rs → AllShown rs
all-shown [] e = tt
all-shown (r ∷ rs) e =
    let first : shown_of r ≡ r.shown = cc in
    let others : map shown_of rs ≡ map (λ (r : Row). r.shown) rs = cc in
    (first, all-shown rs others)

pub shows-names : AllShown names
unfolding is_pseudo_variable control_form is_reflective_selector is_reserved_selector is_control
shows-names = all-shown names refl

pub shows-classes : AllShown classes
unfolding is_pseudo_variable control_form is_reflective_selector is_reserved_selector is_control
shows-classes = all-shown classes refl

pub shows-methods : AllShown methods
unfolding is_pseudo_variable control_form is_reflective_selector is_reserved_selector is_control
shows-methods = all-shown methods refl

pub shows-parts : AllShown parts
unfolding is_pseudo_variable control_form is_reflective_selector is_reserved_selector is_control
shows-parts = all-shown parts refl

pub shows-messages : AllShown messages
unfolding is_pseudo_variable control_form is_reflective_selector is_reserved_selector is_control
shows-messages = all-shown messages refl

pub shows-temporaries : AllShown temporaries
unfolding is_pseudo_variable control_form is_reflective_selector is_reserved_selector is_control
shows-temporaries = all-shown temporaries refl

pub shows-heights : AllShown heights
unfolding is_pseudo_variable control_form is_reflective_selector is_reserved_selector is_control
shows-heights = all-shown heights refl

pub shows-rules : AreRulesShown
unfolding is_pseudo_variable control_form is_reflective_selector is_reserved_selector is_control
shows-rules = record { stuck = refl; derived = refl; reflective = refl }

pub tells-text : IsText
unfolding digits
tells-text = refl
