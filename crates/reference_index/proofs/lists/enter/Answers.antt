use Rattle.std.proofs.Common.{◌≡◌, ◌<◌, nat_eq, length, get_or, filter, ap, sym, ◌∙◌, arith, eqb-true}
use Rattle.std.proofs.lemmas.Grind.{common_steps}
use Rattle.std.proofs.lemmas.List.Folds.{list_any_more}
use Rattle.reference_index.specs.Rows.{mentions}
use Rattle.reference_index.proofs.ListLemmas.{entered-more, entered-same, filter-unpassed, rises-apart_at}
use Rattle.reference_index.proofs.lists.enter.Goals as goal
use Rattle.reference_index.proofs.lists.enter.Goals.{then-not-mentions+in_ok-put, else-not-mentions}

pub returns-in_err-put-clause-same : goal.returns-in_err-put-clause-same
returns-in_err-put-clause-same c =
    λ n. ap (filter (mentions c.args.rows.now n)) (c.in_err-put.ensures.err n ∙ c.loop-name.invariant n)
    ∙ filter-unpassed (mentions c.args.rows.now n) _ c.args.fresh.now.place _

pub loop-name-preserved : goal.loop-name-preserved
loop-name-preserved c =
    let within : c.loop-name.name-index < length c.args.fresh.now.names = rw c.as_slice-name-items.ensures at c.loop-name-test.true in
    let here : get_or c.args.fresh.now.names c.loop-name.name-index 0 ≡ c.name-item.result = grind (arith, common_steps) in
    elim c.if-not-mentions.branch [
      | then-not-mentions+in_ok-put w ↦
          λ n. rw (w.lists-is, list_any_more (nat_eq n) c.args.fresh.now.names c.loop-name.name-index 0 within, here)
          (entered-more c.args.fresh.now.place _ _ _ _ _ _ (c.loop-name.invariant n) (w.in_ok-put.ensures.ok n)
          (λ e. rw (eqb-true n c.name-item.result e) (grind (arith, common_steps)))
          (λ e. rises-apart_at c.args.fresh.now.names c.loop-name.name-index n c.requires within (here ∙ sym (eqb-true n c.name-item.result e))))
      | else-not-mentions w ↦
          λ n. rw (w.lists-is, list_any_more (nat_eq n) c.args.fresh.now.names c.loop-name.name-index 0 within, here)
          (entered-same c.args.fresh.now.place _ _ _ _ _ (c.loop-name.invariant n)
          (λ e. rw (eqb-true n c.name-item.result e) (grind (arith, common_steps))))
    ]

pub returns-clause-same : goal.returns-clause-same
returns-clause-same c =
    λ n. ap (filter (mentions c.args.rows.now n)) (c.loop-name.invariant n)
    ∙ filter-unpassed (mentions c.args.rows.now n) _ c.args.fresh.now.place _
