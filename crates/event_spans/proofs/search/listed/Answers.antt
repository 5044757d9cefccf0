use Rattle.std.proofs.Common.{◌∙◌}
use Rattle.event_spans.proofs.Passed.{listed_behind}
use Rattle.event_spans.proofs.search.listed.Goals as goal

pub loop-place-preserved : goal.loop-place-preserved
loop-place-preserved c =
    c.loop-place.invariant ∙
    listed_behind c.loop-place.steps.items c.follow.new.steps.items c.args.places.now c.loop-place.place-index _ c.loop-place-test.true c.in_ok-follow.ensures
    c.from_vec.result c.loop-place.spans.items c.push.new.self.items (c.from_vec.ensures ∙ c.in_ok-from_slice.ensures.items ∙ c.as_slice.ensures.value) c.in_ok-push.ensures.items
