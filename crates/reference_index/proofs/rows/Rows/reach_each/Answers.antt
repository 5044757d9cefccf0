use Rattle.std.proofs.Common.{◌≡◌, ◌≤◌, ◌∙◌, sym, length, get_or, arith}
use Rattle.std.proofs.lemmas.Grind.{common_steps}
use Rattle.std.proofs.lemmas.List.{take_all}
use Rattle.std.proofs.lemmas.List.Elements.{All-more, All-weaker}
use Rattle.reference_index.specs.declared.fresh.Fresh.{Fresh}
use Rattle.reference_index.specs.Rows.{Fits}
use Rattle.reference_index.proofs.RowLemmas.{front-shorter, front-front}
use Rattle.reference_index.proofs.FreshLemmas.{Fits-more}
use Rattle.reference_index.proofs.rows.Rows.reach_each.Goals as goal
use Rattle.reference_index.proofs.rows.Rows.reach_each.Goals.{then-not-is_empty+in_ok-reach, else-not-is_empty}

pub loop-place-preserved : goal.loop-place-preserved
loop-place-preserved c =
    let here : get_or c.args.fresh.now c.loop-place.place-index c.place-item.result ≡ c.place-item.result = sym c.place-item.is in
    elim c.if-not-is_empty.branch [
      | then-not-is_empty+in_ok-reach w ↦
          rw w.self-is (
            All-more (λ (f : Fresh). Fits w.reach.new.self f.place f.names) c.args.fresh.now c.loop-place.place-index c.place-item.result c.loop-place-test.true
                (All-weaker _ _
                (λ f. Fits-more c.loop-place.self w.reach.new.self f.place f.names
                (front-shorter _ _ w.reach.ensures.methods)
                (front-shorter _ _ w.reach.ensures.doits))
                _ c.loop-place.invariant.0)
                (rw here (λ some. w.in_ok-reach.ensures.there)),
            (λ p. w.reach.ensures.same p ∙ c.loop-place.invariant.1 p),
            front-front _ _ _ c.loop-place.invariant.2 w.reach.ensures.methods,
            front-front _ _ _ c.loop-place.invariant.3 w.reach.ensures.doits,
          )
      | else-not-is_empty w ↦
          rw w.self-is (
            All-more (λ (f : Fresh). Fits c.loop-place.self f.place f.names) c.args.fresh.now c.loop-place.place-index c.place-item.result c.loop-place-test.true
                c.loop-place.invariant.0
                (rw here (λ some. absurd (grind (arith, common_steps)))),
            c.loop-place.invariant.1,
            c.loop-place.invariant.2,
            c.loop-place.invariant.3,
          )
    ]

pub returns-clause-fits : goal.returns-clause-fits
returns-clause-fits c =
    let end : length c.args.fresh.now ≤ c.loop-place.place-index = omega arith in
    rw (take_all c.loop-place.place-index c.args.fresh.now end) at c.loop-place.invariant.0
