use Rattle.std.proofs.Common.{◌≡◌, nat_eq, length, ◌∙◌, arith}
use Rattle.file_model.specs.Hierarchy.{settle_behind}
use Rattle.draft_orders.proofs.settling.settle.Goals as goal

pub returns : goal.returns
returns c =
    let count : c.len-count.result ≡ length c.args.classes.items = omega arith in
    c.in_ok-take.ensures ∙ (λ i. settle_behind nat_eq (count i) (c.in_ok-add_all.ensures.none i) (c.in_ok-add_all.ensures.left i))
