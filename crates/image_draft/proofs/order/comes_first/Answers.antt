use Rattle.std.proofs.Common.{◌∙◌}
use Rattle.image_draft.specs.Table.{stands_first}
use Rattle.image_draft.proofs.ClassPlaces.{first_placed}
use Rattle.image_draft.proofs.order.comes_first.Goals as goal

pub returns : goal.returns
returns c =
    c.stands_first.ensures ∙ (λ i. stands_first (c.place.ensures i) (c.place-2.ensures i)) ∙ first_placed c.args.classes.now c.args.above c.args.name
