use Rattle.std.proofs.Common.{◌++◌, ◌∷◌, [], sym, ◌∙◌}
use Rattle.image_draft.specs.Table.{place_in}
use Rattle.image_draft.proofs.InOrder.{map_more}
use Rattle.image_draft.proofs.arrange.places_in.Goals as goal

pub loop-name-preserved : goal.loop-name-preserved
loop-name-preserved c =
    c.in_ok-push.ensures.items ∙ (λ i. c.loop-name.invariant i ++ c.place.ensures i ∷ [])
    ∙ sym (map_more (place_in c.args.classes.now) c.args.names.now c.loop-name.name-index c.name-item.result c.loop-name-test.true c.name-item.is)
