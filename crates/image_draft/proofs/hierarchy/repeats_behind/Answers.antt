use Rattle.std.proofs.Common.{not, ap, ◌∙◌}
use Rattle.image_draft.specs.NameSets.{has, comes_again}
use Rattle.image_draft.proofs.NameTests.{again_none, not_not}
use Rattle.image_draft.proofs.hierarchy.repeats_behind.Goals as goal

pub returns : goal.returns
returns c =
    ap not c.in_ok-fresh.ensures.fresh ∙ not_not (comes_again (has c.new-seen.result) c.args.names.now) ∙ again_none c.new-seen.result c.args.names.now c.new-seen.ensures
