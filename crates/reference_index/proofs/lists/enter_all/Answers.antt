use Rattle.std.proofs.Common.{filter, take, ap, ◌∙◌}
use Rattle.reference_index.specs.Rows.{mentions}
use Rattle.reference_index.specs.Lists.{list_of}
use Rattle.reference_index.proofs.ListLemmas.{filter-comes}
use Rattle.reference_index.proofs.lists.enter_all.Goals as goal

pub returns-in_err-enter-clause-same : goal.returns-in_err-enter-clause-same
returns-in_err-enter-clause-same c =
    λ n. c.in_err-enter.ensures.same n
    ∙ ap (filter (mentions c.args.rows.now n)) (c.loop-place.invariant n)
    ∙ filter-comes c.args.rows.now n (list_of c.args.lists.now.items n) (take c.loop-place.place-index c.args.fresh.now)

pub returns-clause-same : goal.returns-clause-same
returns-clause-same c =
    λ n. ap (filter (mentions c.args.rows.now n)) (c.loop-place.invariant n)
    ∙ filter-comes c.args.rows.now n (list_of c.args.lists.now.items n) (take c.loop-place.place-index c.args.fresh.now)
