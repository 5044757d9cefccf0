use Rattle.std.proofs.Common.{sym, subst}
use Rattle.image_strip.specs.Least.{IsStep}
use Rattle.image_strip.specs.Reached.{Marks}
use Rattle.image_strip.proofs.Steps.{step-then}
use Rattle.image_strip.proofs.least.follow_all.Goals as goal

pub loop-init : goal.loop-init
loop-init g c = step-then c.args.image.now c.args.reach.now c.raise_all.new.reach c.visit_all.new.reach c.in_ok-raise_all.ensures.step c.in_ok-visit_all.ensures.step

pub loop-preserved : goal.loop-preserved
loop-preserved g c =
    let s = c.args.image.now in
    let old = c.args.reach.now in
    step-then s old c.take_fresh.new.self c.follow.new.reach (subst (λ (m : Marks). IsStep s old m) (sym c.take_fresh.ensures) c.loop.invariant) c.in_ok-follow.ensures
