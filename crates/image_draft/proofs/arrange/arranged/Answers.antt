use Rattle.std.proofs.Common.{ap, ◌≡◌, ◌∙◌}
use Rattle.std.proofs.lemmas.Result.{IfOk-weaker}
use Rattle.image_draft.specs.Arranged.{in_order, at_places}
use Rattle.image_draft.proofs.InOrder.{at_their_places}
use Rattle.image_draft.proofs.arrange.arranged.Goals as goal

pub returns : goal.returns
returns c =
    IfOk-weaker c.take_at.result (λ taken. taken.items ≡ at_places c.deref.result.now c.in_ok-into_items.field-0.items) (λ taken. taken.items ≡ in_order c.args.names.now c.args.classes.items)
    (λ taken e. e ∙ (λ i. at_places ((c.deref.ensures.value ∙ c.in_ok-places.ensures) i) (c.in_ok-into_items.ensures i))
    ∙ at_their_places c.args.names.now c.in_ok-list.list ∙ ap (in_order c.args.names.now) c.in_ok-list.ensures) c.take_at.ensures
