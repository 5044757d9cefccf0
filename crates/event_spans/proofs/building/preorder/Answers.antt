-- One event is read before the others.
use Rattle.std.proofs.Common.{[], ◌∷◌, reverse, ap, ◌∙◌}
use Rattle.event_spans.specs.Building.{back, state}
use Rattle.event_spans.proofs.Built.{back-append}
use Rattle.event_spans.proofs.building.preorder.Goals as goal

pub events-preserved : goal.events-preserved
events-preserved c =
    c.events.invariant
    ∙ ap (λ es. back es (state c.events.waiting.items (reverse c.events.places.items))) c.in-Some.ensures.cases.0
    ∙ back-append c.in-Some.before.now (c.in-Some.last.now ∷ []) (state c.events.waiting.items (reverse c.events.places.items))
    ∙ ap (back c.in-Some.before.now) c.in_ok-read_back.ensures
