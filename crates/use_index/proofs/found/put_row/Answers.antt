use Rattle.std.proofs.Common.{◌≡◌, ◌≤◌, ◌+◌, ◌∷◌, length, drop, arith}
use Rattle.std.proofs.Math.ListN.{drop_of_length-le}
use Rattle.use_index.proofs.Walks.{row-step, row-end, drop-next}
use Rattle.use_index.proofs.found.put_row.Goals as goal

pub loop-one-preserved : goal.loop-one-preserved
loop-one-preserved c =
    let k = c.loop-one.one-index in
    let next : drop k c.args.row.now ≡ c.one-item.result ∷ drop (k + 1) c.args.row.now = drop-next c.args.row.now k c.one-item.result c.loop-one-test.true c.one-item.is in
    row-step c.args.name c.args.what c.args.owner c.one-item.result (drop (k + 1) c.args.row.now) c.loop-one.found.items c.put_one.new.found.items _
    c.in_ok-put_one.ensures
    (rw next at c.loop-one.invariant)

pub returns : goal.returns
returns c =
    let end : length c.args.row.now ≤ c.loop-one.one-index = omega arith in
    row-end c.args.name c.args.what c.args.owner (drop c.loop-one.one-index c.args.row.now) c.loop-one.found.items _ (drop_of_length-le c.args.row.now end) c.loop-one.invariant
