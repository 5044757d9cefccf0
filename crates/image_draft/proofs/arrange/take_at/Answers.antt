use Rattle.std.proofs.Common.{◌∷◌, [], None, get_or, ap, sym, ◌++◌, ◌∙◌}
use Rattle.image_draft.specs.Arranged.{at_places}
use Rattle.image_draft.proofs.InOrder.{at_places_more}
use Rattle.image_draft.proofs.arrange.take_at.Goals as goal

pub loop-place-preserved : goal.loop-place-preserved
loop-place-preserved c = (
  c.in_ok-take_one.ensures.taken c.args.classes.items c.loop-place.invariant.1
      ∙ ap (λ taken. taken ++ at_places (get_or c.args.places.now c.loop-place.place-index None ∷ []) c.args.classes.items) c.loop-place.invariant.0
      ∙ sym (at_places_more c.args.places.now c.args.classes.items c.loop-place.place-index None c.loop-place-test.true),
  c.take_one.ensures.left c.args.classes.items c.loop-place.invariant.1,
)
