use Rattle.std.proofs.Common.{◌≡◌, ℕ, suc, ◌<◌, Bool, Option, Some, sym, ap, ◌∙◌, subst, arith}
use Rattle.std.specs.Option.{option_and_then}
use Rattle.draft_orders.specs.Chains.{is_below, last_before}
use Rattle.draft_orders.specs.Ready.{stands}
use Rattle.draft_orders.specs.Settling.{is_there}
use Rattle.draft_orders.proofs.Chained.{reach, last_is, reach_same, below_past}
use Rattle.draft_orders.proofs.Waking.{Woken, woken_first, woken_more, reach_less}
use Rattle.draft_orders.proofs.settling.wake.Goals as goal

pub loop-next-init : goal.loop-next-init
loop-next-init c =
    let p : ℕ → Bool = is_below c.args.chains.now.above.items c.args.name in
    let e = c.last_below-next.ensures ∙ c.requires.heads c.args.name in (
      e ∙ sym (reach_same p _) ∙ ap (λ (o : Option ℕ). last_before p (reach o)) (sym e),
      woken_first p (is_there c.args.slots.now) (stands c.args.ready.now) _ c.last_below-next.result e (λ j h. below_past c.args.chains.now.above.items c.args.name j h),
    )

pub loop-next-smaller : goal.loop-next-smaller
loop-next-smaller c =
    let p : ℕ → Bool = is_below c.args.chains.now.above.items c.args.name in
    let at : last_before p (suc c.in-Some.place) ≡ Some c.in-Some.place = ap (λ (o : Option ℕ). last_before p (reach o)) (sym c.in-Some.is) ∙ sym c.loop-next.invariant.0 ∙ c.in-Some.is in
    let passes = (last_is p (suc c.in-Some.place) c.in-Some.place at).0 in
    let e = c.before-next.ensures ∙ ap (option_and_then (λ (o : Option ℕ). o)) (c.requires.links c.args.name c.in-Some.place passes) in
    let less : reach c.before-next.result < suc c.in-Some.place = omega (arith, reach_less p c.in-Some.place c.before-next.result e) in
    subst (λ (o : Option ℕ). reach c.before-next.result < reach o) (sym c.in-Some.is) less

pub loop-next-preserved : goal.loop-next-preserved
loop-next-preserved c =
    let p : ℕ → Bool = is_below c.args.chains.now.above.items c.args.name in
    let at : last_before p (suc c.in-Some.place) ≡ Some c.in-Some.place = ap (λ (o : Option ℕ). last_before p (reach o)) (sym c.in-Some.is) ∙ sym c.loop-next.invariant.0 ∙ c.in-Some.is in
    let passes = (last_is p (suc c.in-Some.place) c.in-Some.place at).0 in
    let e = c.before-next.ensures ∙ ap (option_and_then (λ (o : Option ℕ). o)) (c.requires.links c.args.name c.in-Some.place passes) in (
      e ∙ sym (reach_same p c.in-Some.place) ∙ ap (λ (o : Option ℕ). last_before p (reach o)) (sym e),
      woken_more p (is_there c.args.slots.now) (stands c.args.ready.now) (stands c.loop-next.ready) (stands c.wake_at.new.ready) c.in-Some.place c.before-next.result passes e
          (subst (λ (o : Option ℕ). Woken p (is_there c.args.slots.now) (stands c.args.ready.now) (reach o) (stands c.loop-next.ready)) c.in-Some.is c.loop-next.invariant.1) c.in_ok-wake_at.ensures,
    )
