use Rattle.std.proofs.lemmas.Slice.Eq.{slice_eq-Decides}
use Rattle.placed_draft.proofs.Numbers.{nat_decides}
use Rattle.placed_draft.proofs.order.are_same.Goals as goal

pub returns : goal.returns
returns c = (slice_eq-Decides nat_decides c.args.names.now c.args.others.now c.eq.result c.eq.ensures).0
