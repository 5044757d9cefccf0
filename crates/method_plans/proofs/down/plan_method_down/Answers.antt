use Rattle.std.proofs.Common.{◌≡◌, ℕ, ◌-◌, ◌<◌, length, Some, slice_get, refl, sym, ap, ◌∙◌, arith, rules}
use Rattle.std.specs.Prelude.{nat_eq}
use Rattle.std.specs.List.{list_any}
use Rattle.wider_slots.proofs.StepLemmas.{wider-twice}
use Rattle.method_plans.proofs.Orders.{item-at}
use Rattle.method_plans.proofs.Lowered.{lowering-start, lowering-order, lowering-skips, lowering-begins, lowering-end, copying-live, copying-next, copying-done, copying-wider}
use Rattle.method_plans.proofs.down.plan_method_down.Goals as goal

pub loop-place-init : goal.loop-place-init
loop-place-init c =
    let same : length c.methods-place.result.now ≡ length c.args.image.now.method_order = ap length c.methods-place.ensures.value in
    (omega (arith, same), lowering-start c.args.image.now c.requires.orderly c.args.method (length c.methods-place.result.now) c.new.result c.new-2.result.items c.requires.closed same c.new.ensures c.new-2.ensures.items)

pub bounds-methods-place : goal.bounds-methods-place
bounds-methods-place c =
    let same : length c.methods.result.now ≡ length c.args.image.now.method_order =
    ap length (c.methods.ensures.value ∙ lowering-order c.args.image.now c.args.method c.loop-place.place c.loop-place.image c.loop-place.plan.changes c.loop-place.plan.touched.items c.loop-place.invariant.1) in
    omega (arith, same, c.loop-place.invariant.0)

pub offset_bounds-methods-place : goal.offset_bounds-methods-place
offset_bounds-methods-place c =
    let same : length c.methods.result.now ≡ length c.args.image.now.method_order =
    ap length (c.methods.ensures.value ∙ lowering-order c.args.image.now c.args.method c.loop-place.place c.loop-place.image c.loop-place.plan.changes c.loop-place.plan.touched.items c.loop-place.invariant.1) in
    let within : c.loop-place.place - 1 < length c.methods.result.now = omega (arith, same, c.loop-place.invariant.0) in
    search rules

pub loop-place-preserved-then-not-is_listed : goal.loop-place-preserved-then-not-is_listed
loop-place-preserved-then-not-is_listed c =
    let s = c.args.image.now in
    let u = c.loop-place.image in
    let k = c.index-methods-place.result in
    let at : ℕ = c.loop-place.place - 1 in
    let same : length c.methods.result.now ≡ length s.method_order =
    ap length (c.methods.ensures.value ∙ lowering-order s c.args.method c.loop-place.place u c.loop-place.plan.changes c.loop-place.plan.touched.items c.loop-place.invariant.1) in
    let within : c.loop-place.place - 1 < length c.methods.result.now = omega (arith, same, c.loop-place.invariant.0) in
    let stands : slice_get u.method_order at ≡ Some k = item-at c.methods.result.now u.method_order at k c.methods.ensures.value within c.index-methods-place.is in
    let h = c.if-not-is_listed.true in
    (omega (arith, c.loop-place.invariant.0), lowering-skips s c.requires.orderly c.args.method c.loop-place.place at k u c.loop-place.plan.changes c.loop-place.plan.touched.items (omega arith) stands c.loop-place.invariant.1 (sym (c.is_listed.ensures ∙ ap (list_any (nat_eq k)) c.as_slice-named.ensures.value ∙ c.in_ok-slots.ensures k) ∙ h))

pub loop-left-init : goal.loop-left-init
loop-left-init c =
    let s = c.args.image.now in
    let u = c.loop-place.image in
    let k = c.index-methods-place.result in
    let at : ℕ = c.loop-place.place - 1 in
    let same : length c.methods.result.now ≡ length s.method_order =
    ap length (c.methods.ensures.value ∙ lowering-order s c.args.method c.loop-place.place u c.loop-place.plan.changes c.loop-place.plan.touched.items c.loop-place.invariant.1) in
    let within : c.loop-place.place - 1 < length c.methods.result.now = omega (arith, same, c.loop-place.invariant.0) in
    let stands : slice_get u.method_order at ≡ Some k = item-at c.methods.result.now u.method_order at k c.methods.ensures.value within c.index-methods-place.is in
    let h = c.if-not-is_listed.false in (
      omega arith,
      lowering-begins s c.requires.orderly c.args.method c.loop-place.place at k u c.loop-place.plan.changes c.loop-place.plan.touched.items (omega arith) stands c.loop-place.invariant.1
          c.as_slice-classes.result.now (length c.as_slice-classes.result.now) c.put_live.new.plan.changes c.put_live.new.plan.touched.items (sym (c.is_listed.ensures ∙ ap (list_any (nat_eq k)) c.as_slice-named.ensures.value ∙ c.in_ok-slots.ensures k) ∙ h) refl c.in_ok-put_live.ensures.changes c.in_ok-put_live.ensures.touched,
    )

pub loop-place-preserved : goal.loop-place-preserved
loop-place-preserved c = (
  omega (arith, c.loop-place.invariant.0),
  copying-done c.args.image.now c.requires.orderly c.args.method c.as_slice-classes.result.now (c.as_slice-classes.ensures ∙ c.in_ok-found.ensures) (c.loop-place.place - 1) c.index-methods-place.result c.loop-left.left c.loop-left.image
      c.loop-left.plan.changes c.loop-left.plan.touched.items (omega arith) c.loop-left.invariant.1,
)

pub put_copy-requires-clause-class : goal.put_copy-requires-clause-class
put_copy-requires-clause-class c =
    let within : c.loop-left.left - 1 < length c.as_slice-classes.result.now = omega (arith, c.loop-left.invariant.0) in
    copying-live c.args.image.now c.args.method c.as_slice-classes.result.now (c.loop-place.place - 1) c.index-methods-place.result c.loop-left.left c.loop-left.image c.loop-left.plan.changes c.loop-left.plan.touched.items c.loop-left.invariant.1
    (c.loop-left.left - 1) c.index-classes-left.result (c.as_slice-classes.ensures ∙ c.in_ok-found.ensures) (item-at c.as_slice-classes.result.now c.as_slice-classes.result.now (c.loop-left.left - 1) c.index-classes-left.result refl within c.index-classes-left.is)

pub loop-left-preserved : goal.loop-left-preserved
loop-left-preserved c =
    let within : c.loop-left.left - 1 < length c.as_slice-classes.result.now = omega (arith, c.loop-left.invariant.0) in (
      omega (arith, c.loop-left.invariant.0),
      copying-next c.args.image.now c.requires.orderly c.args.method c.as_slice-classes.result.now (c.as_slice-classes.ensures ∙ c.in_ok-found.ensures) (c.loop-place.place - 1) c.index-methods-place.result c.loop-left.left (c.loop-left.left - 1)
          c.index-classes-left.result c.loop-left.image c.put_copy.new.image c.loop-left.plan.changes c.put_copy.new.plan.changes c.loop-left.plan.touched.items c.put_copy.new.plan.touched.items (omega arith)
          (item-at c.as_slice-classes.result.now c.as_slice-classes.result.now (c.loop-left.left - 1) c.index-classes-left.result refl within c.index-classes-left.is)
          c.in_ok-put_copy.ensures.image c.in_ok-put_copy.ensures.changes c.in_ok-put_copy.ensures.touched c.loop-left.invariant.1,
    )

pub returns-in_err-put_copy-clause-wider : goal.returns-in_err-put_copy-clause-wider
returns-in_err-put_copy-clause-wider c =
    wider-twice c.args.image.now c.loop-left.image c.put_copy.new.image
    (copying-wider c.args.image.now c.args.method c.as_slice-classes.result.now (c.loop-place.place - 1) c.index-methods-place.result c.loop-left.left c.loop-left.image c.loop-left.plan.changes c.loop-left.plan.touched.items c.loop-left.invariant.1)
    c.put_copy.ensures.wider

pub returns-clause-plan : goal.returns-clause-plan
returns-clause-plan c =
    lowering-end c.args.image.now c.requires.orderly c.args.method c.loop-place.place c.loop-place.image c.loop-place.plan.changes c.loop-place.plan.touched.items (omega arith) c.loop-place.invariant.1
