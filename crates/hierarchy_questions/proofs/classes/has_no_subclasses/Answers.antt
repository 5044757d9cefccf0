use Rattle.std.proofs.Common.{rules, tests, ◌≡◌, ◌&&◌, not, ap, sym, ◌∙◌}
use Rattle.std.specs.Prelude.{nat_eq}
use Rattle.std.specs.List.{list_any}
use Rattle.std.proofs.lemmas.Iterator.{YieldsList-from_slice}
use Rattle.std.proofs.lemmas.Iterator.Search.{any_from_yields_List}
use Rattle.class_table.specs.View.{class_of}
use Rattle.command_model.specs.Hierarchy.{is_child}
use Rattle.class_questions.specs.LiveClasses.{is_live_that}
use Rattle.class_questions.proofs.AnyLive.{any_live}
use Rattle.hierarchy_questions.proofs.classes.has_no_subclasses.Goals as goal

pub returns-then-is_class : goal.returns-then-is_class
returns-then-is_class c =
    let s = c.args.image.now in
    let any : c.any.result ≡ list_any (is_live_that (is_child nat_eq c.args.class) s) c.classes.result.now =
    any_from_yields_List (is_live_that (is_child nat_eq c.args.class) s) _ _ c.any.result c.any.ensures.ran (YieldsList-from_slice c.classes.result.now (cc)) (λ x b q k. search (rules, tests)) in
    let there = sym c.if-is_class.true ∙ c.is_class.ensures in
    let found = any ∙ ap (list_any (is_live_that (is_child nat_eq c.args.class) s)) c.classes.ensures.value ∙ any_live (class_of s.classes) (is_child nat_eq c.args.class) s.classes s.class_order in
    λ i. there i && not (found i)
