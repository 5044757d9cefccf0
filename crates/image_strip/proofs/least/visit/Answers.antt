use Rattle.std.proofs.Common.{ℕ, ◌||◌, List, Bool, sym, ap, ◌∙◌}
use Rattle.std.specs.Prelude.{nat_eq}
use Rattle.std.specs.List.{list_any}
use Rattle.image_strip.specs.Reached.{is_marked}
use Rattle.image_strip.proofs.Visits.{visited-told}
use Rattle.image_strip.proofs.least.visit.Goals as goal

pub returns : goal.returns
returns g c =
    let s = c.args.image.now in
    let old = c.args.reach.now in
    let info = c.in-Some.info in
    let tree = c.in-Some-open_body.tree.now in
    visited-told s c.requires.orderly c.args.slot c.requires.live info tree c.in-Some.ensures c.in-Some-open_body.ensures.tree old c.add_method.new.self _ _
    c.in_ok-put_name.ensures c.in_ok-classes.ensures
    (λ n. ap (λ (marks : List Bool). is_marked marks n) c.in_ok-add_method.ensures.classes ∙ c.in_ok-add_names.ensures.classes n)
    (λ n. ap (λ (marks : List Bool). is_marked marks n) c.in_ok-add_method.ensures.selectors ∙ c.in_ok-add_names.ensures.selectors n ∙ ap (λ (xs : List ℕ). list_any (nat_eq n) xs || is_marked old.selectors n) c.in_ok-selectors.ensures)
    (λ n. c.in_ok-add_method.ensures.methods n ∙ ap (λ (marks : List Bool). nat_eq n c.args.slot || is_marked marks n) c.in_ok-add_names.ensures.methods)
    (sym c.has_method.ensures ∙ c.if-has_method.false) (sym c.is_wanted.ensures ∙ c.if-not-is_wanted.false)
