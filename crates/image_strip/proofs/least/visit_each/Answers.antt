use Rattle.std.proofs.Common.{sym, subst, ◌∙◌}
use Rattle.image_strip.specs.Least.{IsStep}
use Rattle.image_strip.specs.Reached.{Marks}
use Rattle.image_strip.proofs.Steps.{step-none, step-then}
use Rattle.image_strip.proofs.Told.{told-live}
use Rattle.image_strip.proofs.least.visit_each.Goals as goal
use Rattle.image_strip.proofs.least.visit_each.Goals.{then-is_some+in_ok-visit, else-is_some}

pub visit-requires-clause-live : goal.visit-requires-clause-live
visit-requires-clause-live g c = told-live c.args.image.now c.slot-item.result c.method_info.result c.method_info.ensures (sym c.is_some.ensures ∙ c.if-is_some.true)

pub loop-slot-init : goal.loop-slot-init
loop-slot-init g c = step-none c.args.image.now c.args.reach.now

pub loop-slot-preserved : goal.loop-slot-preserved
loop-slot-preserved g c =
    let s = c.args.image.now in
    let old = c.args.reach.now in
    elim c.if-is_some.branch [
      | then-is_some+in_ok-visit w ↦ subst (λ (m : Marks). IsStep s old m) (sym w.reach-is) (step-then s old c.loop-slot.reach w.visit.new.reach c.loop-slot.invariant w.in_ok-visit.ensures.step)
      | else-is_some w ↦ subst (λ (m : Marks). IsStep s old m) (sym w.reach-is) c.loop-slot.invariant
    ]
