use Rattle.std.proofs.Common.{◌≡◌, ◌+◌, Some, slice_get, length, sym, ap, ◌∙◌, arith}
use Rattle.std.specs.Prelude.{nat_eq}
use Rattle.std.specs.List.{list_any}
use Rattle.plans.specs.declared.plan.Plan.{Plan}
use Rattle.method_plans.proofs.Orders.{item-at}
use Rattle.temporary_plans.proofs.Retelling.{retelling-start, retelling-same, retelling-hit, retelling-miss, retelling-end}
use Rattle.temporary_plans.proofs.planning.plan_retold.Goals as goal
use Rattle.temporary_plans.proofs.planning.plan_retold.Goals.{then-is_listed+in_ok-put_retold, else-is_listed}

pub loop-slot-init : goal.loop-slot-init
loop-slot-init g c = retelling-start c.args.image.now c.requires.orderly c.args.method.now c.args.tree.now c.requires.known c.no_changes-plan.result.changes c.no_changes-plan.result.touched.items c.no_changes-plan.ensures.changes c.no_changes-plan.ensures.touched

pub loop-slot-preserved : goal.loop-slot-preserved
loop-slot-preserved g c =
    let s = c.args.image.now in
    let m = c.args.method.now in
    let t = c.args.tree.now in
    let i = c.loop-slot.slot-index in
    let k = c.slot-item.result in
    let at : slice_get s.method_order i ≡ Some k = item-at c.methods-slot-items.result.now s.method_order i k c.methods-slot-items.ensures.value c.loop-slot-test.true c.slot-item.is in
    let users = c.is_listed.ensures ∙ ap (list_any (nat_eq k)) c.as_slice-own.ensures.value ∙ c.in_ok-found.ensures k in
    elim c.if-is_listed.branch [
      | then-is_listed+in_ok-put_retold w ↦
          retelling-same s m t (i + 1) _ _ _ _
          (ap (λ (p : Plan). p.changes) w.plan-is ∙ w.in_ok-put_retold.ensures.changes)
          (ap (λ (p : Plan). p.touched.items) w.plan-is ∙ w.in_ok-put_retold.ensures.touched)
          (retelling-hit s c.requires.orderly m t c.requires.known i k c.loop-slot.plan.changes c.loop-slot.plan.touched.items at (sym users ∙ w.if-is_listed.true) c.loop-slot.invariant)
      | else-is_listed w ↦
          retelling-same s m t (i + 1) _ _ _ _ (ap (λ (p : Plan). p.changes) w.plan-is) (ap (λ (p : Plan). p.touched.items) w.plan-is)
          (retelling-miss s c.requires.orderly m t c.requires.known i k c.loop-slot.plan.changes c.loop-slot.plan.touched.items at (sym users ∙ w.if-is_listed.false) c.loop-slot.invariant)
    ]

pub returns : goal.returns
returns g c =
    let s = c.args.image.now in
    let end : c.loop-slot.slot-index ≡ length s.method_order = omega (arith, ap length c.methods-slot-items.ensures.value) in
    λ command told. retelling-end s c.args.method.now c.args.tree.now command told c.loop-slot.slot-index c.loop-slot.plan.changes c.loop-slot.plan.touched.items end c.loop-slot.invariant
