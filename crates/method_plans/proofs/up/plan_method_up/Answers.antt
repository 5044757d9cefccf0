use Rattle.std.proofs.Common.{◌≡◌, ◌+◌, Some, slice_get, true, false, length, sym, ap, ◌∙◌, arith}
use Rattle.std.specs.Prelude.{nat_eq}
use Rattle.std.specs.List.{list_any}
use Rattle.plans.specs.declared.plan.Plan.{Plan}
use Rattle.method_plans.proofs.Orders.{item-at}
use Rattle.method_plans.proofs.Risen.{risen-start, risen-more, risen-same, risen-end, not_risen}
use Rattle.method_plans.proofs.up.plan_method_up.Goals as goal
use Rattle.method_plans.proofs.up.plan_method_up.Goals.{then-is_listed+in_ok-put_moved, else-is_listed}

pub returns-in_default : goal.returns-in_default
returns-in_default c = not_risen c.args.image.now c.requires.orderly c.args.method c.new.result c.new-2.result.items (sym c.superclass.ensures ∙ c.in_default.is) c.new.ensures c.new-2.ensures.items

pub loop-slot-init : goal.loop-slot-init
loop-slot-init c = risen-start c.args.image.now c.requires.orderly c.args.method c.in-Some.class c.new.result c.new-2.result.items (sym c.superclass.ensures ∙ c.in-Some.is) c.new.ensures c.new-2.ensures.items

pub loop-slot-preserved : goal.loop-slot-preserved
loop-slot-preserved c =
    let s = c.args.image.now in
    let i = c.loop-slot.slot-index in
    let k = c.slot-item.result in
    let at : slice_get s.method_order i ≡ Some k = item-at c.methods-slot-items.result.now s.method_order i k c.methods-slot-items.ensures.value c.loop-slot-test.true c.slot-item.is in
    let named = c.is_listed.ensures ∙ ap (list_any (nat_eq k)) c.as_slice-named.ensures.value ∙ c.in_ok-found.ensures k in
    elim c.if-is_listed.branch [
      | then-is_listed+in_ok-put_moved w ↦
          risen-same s c.args.method c.in-Some.class (i + 1) _ _ _ _
          (ap (λ (p : Plan). p.changes) w.plan-is ∙ w.in_ok-put_moved.ensures)
          (ap (λ (p : Plan). p.touched.items) w.plan-is)
          (risen-more s c.requires.orderly c.args.method c.in-Some.class i k true c.loop-slot.plan.changes c.loop-slot.plan.touched.items at (sym named ∙ w.if-is_listed.true) c.loop-slot.invariant)
      | else-is_listed w ↦
          risen-same s c.args.method c.in-Some.class (i + 1) _ _ _ _ (ap (λ (p : Plan). p.changes) w.plan-is) (ap (λ (p : Plan). p.touched.items) w.plan-is)
          (risen-more s c.requires.orderly c.args.method c.in-Some.class i k false c.loop-slot.plan.changes c.loop-slot.plan.touched.items at (sym named ∙ w.if-is_listed.false) c.loop-slot.invariant)
    ]

pub returns : goal.returns
returns c =
    let s = c.args.image.now in
    let end : c.loop-slot.slot-index ≡ length s.method_order = omega (arith, ap length c.methods-slot-items.ensures.value) in
    risen-end s c.requires.orderly c.args.method c.in-Some.class c.loop-slot.slot-index c.loop-slot.plan.changes c.loop-slot.plan.touched.items end c.loop-slot.invariant
