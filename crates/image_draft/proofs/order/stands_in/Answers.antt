use Rattle.std.proofs.Common.{is_some, ap, ◌∙◌}
use Rattle.image_draft.proofs.ClassPlaces.{has_place}
use Rattle.image_draft.proofs.order.stands_in.Goals as goal

pub returns : goal.returns
returns c = c.is_some.ensures ∙ ap is_some c.place.ensures ∙ has_place c.args.classes.now c.args.name
