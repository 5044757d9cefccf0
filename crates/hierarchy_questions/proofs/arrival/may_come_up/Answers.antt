use Rattle.std.proofs.Common.{rules, tests, ◌≡◌, ◌&&◌, ◌||◌, not, true, false, ap, sym, ◌∙◌}
use Rattle.std.specs.Prelude.{nat_eq, Some}
use Rattle.std.specs.List.{list_any}
use Rattle.std.proofs.lemmas.Iterator.{YieldsList-from_slice}
use Rattle.std.proofs.lemmas.Iterator.Search.{any_from_yields_List}
use Rattle.image_model.specs.Chain.{chain}
use Rattle.rename_model.specs.Conditions.{defines}
use Rattle.class_table.specs.View.{class_of, number_image}
use Rattle.command_model.specs.Hierarchy as hierarchy
use Rattle.command_model.specs.VariableConditions.{is_free_beside}
use Rattle.class_questions.specs.LiveClasses.{is_live_that}
use Rattle.class_questions.proofs.AnyLive.{any_live}
use Rattle.hierarchy_questions.specs.Arrivals.{is_defined_beside, is_named_beside}
use Rattle.hierarchy_questions.proofs.Listed.{listed-named}
use Rattle.hierarchy_questions.proofs.arrival.may_come_up.Goals as goal
use Rattle.hierarchy_questions.proofs.arrival.may_come_up.Goals.{then-not-is_class-via-then-not-is_class, then-not-is_class-via-else-not-is_class+then-is_defined_above, then-not-is_class-via-else-not-is_class+else-is_defined_above+then-any}

pub returns-then-not-is_class : goal.returns-then-not-is_class
returns-then-not-is_class g c =
    let s = c.args.image.now in
    let a = c.args.arrival.now in
    let named = list_any (is_named_beside (number_image s) a) (number_image s).methods in
    let below = list_any (is_defined_beside s a) (number_image s).classes in
    elim c.then-not-is_class.branch [
      | then-not-is_class-via-then-not-is_class w ↦
          (let there : false ≡ hierarchy.is_class nat_eq (number_image s) a.class = sym w.if-not-is_class.true ∙ c.is_class.ensures in
          λ i. there i && is_free_beside nat_eq (number_image s) a.excepted.now a.class a.variable)
      | then-not-is_class-via-else-not-is_class+then-is_defined_above w ↦
          (let there : true ≡ hierarchy.is_class nat_eq (number_image s) a.class = sym w.if-not-is_class.false ∙ c.is_class.ensures in
          let above : true ≡ list_any (defines nat_eq a.variable) (chain nat_eq (number_image s).classes (Some a.class)) = sym w.if-is_defined_above.true ∙ w.is_defined_above.ensures in
          λ i. there i && not (above i || (below || named)))
      | then-not-is_class-via-else-not-is_class+else-is_defined_above+then-any w ↦
          (let there : true ≡ hierarchy.is_class nat_eq (number_image s) a.class = sym w.if-not-is_class.false ∙ c.is_class.ensures in
          let above : false ≡ list_any (defines nat_eq a.variable) (chain nat_eq (number_image s).classes (Some a.class)) = sym w.if-is_defined_above.false ∙ w.is_defined_above.ensures in
          let any : w.any.result ≡ list_any (is_live_that (is_defined_beside s a) s) w.classes.result.now =
          any_from_yields_List (is_live_that (is_defined_beside s a) s) _ _ w.any.result w.any.ensures.ran (YieldsList-from_slice w.classes.result.now (cc)) (λ x b q k. search (rules, tests)) in
          let found : true ≡ below = sym w.if-any.true ∙ any ∙ ap (list_any (is_live_that (is_defined_beside s a) s)) w.classes.ensures.value ∙ any_live (class_of s.classes) (is_defined_beside s a) s.classes s.class_order in
          λ i. there i && not (above i || (found i || named)))
    ]

pub returns : goal.returns
returns g c =
    let s = c.args.image.now in
    let a = c.args.arrival.now in
    let there : true ≡ hierarchy.is_class nat_eq (number_image s) a.class = sym c.if-not-is_class.false ∙ c.is_class.ensures in
    let above : false ≡ list_any (defines nat_eq a.variable) (chain nat_eq (number_image s).classes (Some a.class)) = sym c.if-is_defined_above.false ∙ c.is_defined_above.ensures in
    let any : c.any.result ≡ list_any (is_live_that (is_defined_beside s a) s) c.classes.result.now =
    any_from_yields_List (is_live_that (is_defined_beside s a) s) _ _ c.any.result c.any.ensures.ran (YieldsList-from_slice c.classes.result.now (cc)) (λ x b q k. search (rules, tests)) in
    let below : false ≡ list_any (is_defined_beside s a) (number_image s).classes =
    sym c.if-any.false ∙ any ∙ ap (list_any (is_live_that (is_defined_beside s a) s)) c.classes.ensures.value ∙ any_live (class_of s.classes) (is_defined_beside s a) s.classes s.class_order in
    let named = c.in_ok-named.ensures ∙ listed-named s a c.args.index.now c.listed-places.result.now c.requires.index c.listed-places.ensures in
    λ i. there i && not (above i || (below i || named i))
