use Rattle.std.proofs.Common.{◌∙◌, sym}
use Rattle.event_spans.proofs.Passed.{found_behind}
use Rattle.event_spans.proofs.search.node_found.Goals as goal

pub loop-place-preserved : goal.loop-place-preserved
loop-place-preserved c =
    c.loop-place.invariant ∙
    found_behind c.loop-place.steps.items c.follow.new.steps.items c.args.places.now c.loop-place.place-index _ c.loop-place-test.true c.in_ok-follow.ensures c.args.span (sym c.is_at.ensures ∙ c.if-is_at.false)
