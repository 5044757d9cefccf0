use Rattle.std.proofs.Common.{sym, ap, ◌∙◌, max, get_or}
use Rattle.event_checks.proofs.Raised.{greatest_up_to}
use Rattle.event_checks.proofs.heights.greatest.Goals as goal

pub loop-height-preserved : goal.loop-height-preserved
loop-height-preserved c =
    c.max-greatest.ensures ∙ ap (max (get_or c.args.heights.now c.loop-height.height-index 0)) c.loop-height.invariant ∙ sym (greatest_up_to c.args.heights.now c.loop-height.height-index c.loop-height-test.true)
