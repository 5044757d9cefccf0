use Rattle.std.proofs.Common.{◌≡◌, ◌+◌, ℕ, Some, slice_get, length, sym, ap, subst, ◌∙◌, arith}
use Rattle.std.specs.Prelude.{nat_eq}
use Rattle.std.specs.List.{list_any}
use Rattle.plans.specs.declared.plan.Plan.{Plan}
use Rattle.method_plans.proofs.Orders.{item-at}
use Rattle.method_plans.proofs.Removed.{Removing, removing-hit, removing-miss, removing-same, removed}
use Rattle.method_plans.proofs.going.plan_method_removal.Goals as goal
use Rattle.method_plans.proofs.going.plan_method_removal.Goals.{then-is_listed+in_ok-put_live, else-is_listed}

pub loop-slot-preserved : goal.loop-slot-preserved
loop-slot-preserved c =
    let s = c.args.image.now in
    let i = c.loop-slot.slot-index in
    let k = c.slot-item.result in
    let at : slice_get s.method_order i ≡ Some k = item-at c.methods-slot-items.result.now s.method_order i k c.methods-slot-items.ensures.value c.loop-slot-test.true c.slot-item.is in
    let named = c.is_listed.ensures ∙ ap (list_any (nat_eq k)) c.as_slice-named.ensures.value ∙ c.in_ok-found.ensures k in
    elim c.if-is_listed.branch [
      | then-is_listed+in_ok-put_live w ↦
          removing-same s c.requires.orderly c.args.method (i + 1) _ _ _ _
          (ap (λ (p : Plan). p.changes) w.plan-is ∙ w.in_ok-put_live.ensures.changes)
          (ap (λ (p : Plan). p.touched.items) w.plan-is ∙ w.in_ok-put_live.ensures.touched)
          (removing-hit s c.requires.orderly c.args.method i k at c.loop-slot.plan.changes c.loop-slot.plan.touched.items (sym named ∙ w.if-is_listed.true) c.loop-slot.invariant)
      | else-is_listed w ↦
          removing-same s c.requires.orderly c.args.method (i + 1) _ _ _ _ (ap (λ (p : Plan). p.changes) w.plan-is) (ap (λ (p : Plan). p.touched.items) w.plan-is)
          (removing-miss s c.requires.orderly c.args.method i k at c.loop-slot.plan.changes c.loop-slot.plan.touched.items (sym named ∙ w.if-is_listed.false) c.loop-slot.invariant)
    ]

pub returns : goal.returns
returns c =
    let s = c.args.image.now in
    let end : c.loop-slot.slot-index ≡ length s.method_order = omega (arith, ap length c.methods-slot-items.ensures.value) in
    removed s c.requires.orderly c.args.method c.loop-slot.plan.changes c.loop-slot.plan.touched.items
    (subst (λ (j : ℕ). Removing s c.args.method j c.loop-slot.plan.changes c.loop-slot.plan.touched.items) end c.loop-slot.invariant)
