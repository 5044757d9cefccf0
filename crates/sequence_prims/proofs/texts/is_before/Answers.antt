use Rattle.std.proofs.Common.{◌∙◌}
use Rattle.sequence_prims.proofs.Before.{lt_before}
use Rattle.sequence_prims.proofs.texts.is_before.Goals as goal

pub returns : goal.returns
returns c = c.lt.ensures ∙ lt_before c.args.first.now c.args.second.now
