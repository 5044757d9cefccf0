-- The nodes of a sequence are those that its events give.
use Rattle.std.proofs.Common.{[], ap, ◌∙◌}
use Rattle.parse_events.specs.declared.event.SequenceEvents.{SequenceEvents}
use Rattle.event_spans.specs.Building.{back, state}
use Rattle.event_spans.proofs.Built.{back-outermost}
use Rattle.event_spans.proofs.place.Places.of.Goals as goal

pub returns : goal.returns
returns c = λ s e.
    c.in_ok-preorder.ensures
    ∙ ap (λ es. (back es (state [] [])).places) (c.as_slice.ensures ∙ ap (λ (f : SequenceEvents). f.events) e)
    ∙ back-outermost s.statements
