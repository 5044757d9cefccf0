use Rattle.std.proofs.Common.{sym, ◌∙◌}
use Rattle.event_checks.proofs.Short.{tall_past}
use Rattle.event_checks.proofs.heights.tall_in_events.Goals as goal

pub loop-event-preserved : goal.loop-event-preserved
loop-event-preserved c =
    c.loop-event.invariant ∙
    tall_past c.loop-event.depth c.in_ok-depth.depth c.loop-event.heights.items c.deref.result.now c.build.new.heights.items c.args.events.now c.loop-event.event-index c.event-item.result c.tall_at-tall.result
    c.loop-event-test.true c.event-item.is c.tall_at-tall.ensures c.deref.ensures.value (sym c.is_some.ensures ∙ c.if-is_some.false) c.in_ok-depth.ensures c.in_ok-build.ensures
