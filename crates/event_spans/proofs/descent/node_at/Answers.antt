-- Where there are not so many nodes the path leads nowhere.
use Rattle.std.proofs.Common.{◌<◌, length, sym, ◌∙◌, arith}
use Rattle.std.proofs.lemmas.List.{drop_more}
use Rattle.event_spans.proofs.RootsPassed.{lost}
use Rattle.event_spans.proofs.descent.node_at.Goals as goal

pub returns-in_default : goal.returns-in_default
returns-in_default c =
    let h : c.steps.step-index < length c.args.path.now = omega arith in
    sym (c.steps.invariant ∙ lost c.steps.found c.steps.nodes.now c.from_root.result.now c.args.path.now c.steps.step-index _ (drop_more c.args.path.now c.steps.step-index _ h) c.from_root.ensures (grind (arith, c.in_default.ensures.cases)))
