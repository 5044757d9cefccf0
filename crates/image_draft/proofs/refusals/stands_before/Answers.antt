use Rattle.std.proofs.Common.{sym, ◌∙◌}
use Rattle.std.proofs.lemmas.Bool.{ltb-true}
use Rattle.image_draft.proofs.Sound.{behind_clear}
use Rattle.image_draft.proofs.refusals.stands_before.Goals as goal

pub returns : goal.returns
returns c = λ less.
    behind_clear c.args.classes.now c.args.name c.args.class c.in-Some.first c.in-Some-place.second c.requires (sym c.place.ensures ∙ c.in-Some.is) (sym c.place-2.ensures ∙ c.in-Some-place.is)
    (ltb-true c.in-Some.first c.in-Some-place.second less)
