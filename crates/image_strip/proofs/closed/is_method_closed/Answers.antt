use Rattle.std.proofs.Common.{◌&&◌, sym, ◌∙◌}
use Rattle.std.specs.List.{list_all}
use Rattle.image_strip.specs.Reached.{is_marked}
use Rattle.image_strip.proofs.Told.{method-told}
use Rattle.image_strip.proofs.closed.is_method_closed.Goals as goal

pub returns-in_ok-selectors-in-Some-open_body : goal.returns-in_ok-selectors-in-Some-open_body
returns-in_ok-selectors-in-Some-open_body g c =
    let s = c.args.image.now in
    let r = c.args.reach.now in
    c.has_all.ensures
    ∙ (λ j. c.in_ok-classes-in-Some-open_body.ensures (is_marked r.classes) j && list_all (is_marked r.selectors) (c.in_ok-selectors-in-Some-open_body.ensures j))
    ∙ method-told s r c.args.slot c.requires.live c.in-Some.info c.in-Some-open_body.tree.now c.in-Some.ensures c.in-Some-open_body.ensures.tree
    (sym c.has_method.ensures ∙ c.if-not-has_method.false) (sym c.is_class_reached.ensures ∙ c.if-not-is_class_reached.false)
