use Rattle.std.proofs.Common.{◌≡◌, ◌≤◌, ◌∙◌, sym, length, get_or, arith}
use Rattle.std.proofs.lemmas.List.{take_all}
use Rattle.std.proofs.lemmas.List.Elements.{All-more, All-weaker}
use Rattle.use_index.specs.declared.fresh.FreshUses.{FreshUses}
use Rattle.use_index.specs.Rows.{HasRow}
use Rattle.use_index.proofs.RowLemmas.{front-shorter, front-front, HasRow-more}
use Rattle.use_index.proofs.rows.UseRows.reach_each.Goals as goal

pub loop-place-preserved : goal.loop-place-preserved
loop-place-preserved c =
    let here : get_or c.args.fresh.now c.loop-place.place-index c.place-item.result ≡ c.place-item.result = sym c.place-item.is in (
      All-more (λ (f : FreshUses). HasRow c.reach.new.self f.place) c.args.fresh.now c.loop-place.place-index c.place-item.result c.loop-place-test.true
          (All-weaker _ _
          (λ f. HasRow-more c.loop-place.self c.reach.new.self f.place
          (front-shorter _ _ c.reach.ensures.methods)
          (front-shorter _ _ c.reach.ensures.doits))
          _ c.loop-place.invariant.0)
          (rw here c.in_ok-reach.ensures.there),
      (λ p. c.reach.ensures.same p ∙ c.loop-place.invariant.1 p),
      front-front _ _ _ c.loop-place.invariant.2 c.reach.ensures.methods,
      front-front _ _ _ c.loop-place.invariant.3 c.reach.ensures.doits,
    )

pub returns-clause-there : goal.returns-clause-there
returns-clause-there c =
    let end : length c.args.fresh.now ≤ c.loop-place.place-index = omega arith in
    rw (take_all c.loop-place.place-index c.args.fresh.now end) at c.loop-place.invariant.0
