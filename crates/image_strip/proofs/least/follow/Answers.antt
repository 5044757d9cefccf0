use Rattle.std.proofs.Common.{sym, subst}
use Rattle.class_questions.proofs.ChainLaws.{named-slot}
use Rattle.image_strip.specs.Least.{IsStep}
use Rattle.image_strip.specs.Reached.{Marks}
use Rattle.image_strip.proofs.Steps.{step-none, step-then}
use Rattle.image_strip.proofs.least.follow.Goals as goal
use Rattle.image_strip.proofs.least.follow.Goals.{in-Some+in_ok-raise, in_default}

pub raise-requires-clause-live : goal.raise-requires-clause-live
raise-requires-clause-live g c = (named-slot c.args.image.now.classes c.args.image.now.class_order c.args.name c.in-Some.id (sym c.in-Some.ensures)).0

pub returns : goal.returns
returns g c =
    let s = c.args.image.now in
    let old = c.args.reach.now in
    let first : IsStep s old c.match-class_named.reach =
    elim c.match-class_named.branch [
      | in-Some+in_ok-raise w ↦ subst (λ (m : Marks). IsStep s old m) (sym w.reach-is) w.in_ok-raise.ensures.step
      | in_default w ↦ subst (λ (m : Marks). IsStep s old m) (sym w.reach-is) (step-none s old)
    ] in
    step-then s old c.match-class_named.reach c.visit_each.new.reach first c.in_ok-visit_each.ensures
