use Rattle.std.proofs.Common.{◌≡◌, [], length, Some, sym, ◌∙◌, arith}
use Rattle.std.proofs.lemmas.Bool.{eqb-true, eq-eqb, false≢true}
use Rattle.certificates.specs.Stops.{a_sign, left_from}
use Rattle.certificates.proofs.Joined.{steps_done, steps_good, steps_more, nothing_left}
use Rattle.certificates.proofs.Stopping.{behind_comma, no_comma}
use Rattle.certificates.proofs.reading.steps_in.Goals as goal

pub returns-then-is_empty-clause-said : goal.returns-then-is_empty-clause-said
returns-then-is_empty-clause-said c =
    let nothing : c.in_ok-step.behind.now ≡ [] = nothing_left c.in_ok-step.behind.now (eqb-true (length c.in_ok-step.behind.now) 0 (sym c.if-is_empty.ensures)) in
    steps_done c.push.new.steps.items c.steps.steps.items c.in_ok-step.step c.args.text.now c.steps.rest.now c.in_ok-step.behind.now c.in_ok-push.ensures c.steps.invariant.good c.in_ok-step.ensures.step c.steps.invariant.spelled c.in_ok-step.ensures.spelled nothing

pub returns-in-None-clause-halts : goal.returns-in-None-clause-halts
returns-in-None-clause-halts c =
    let halts : left_from a_sign c.args.text.now ≡ Some (length c.in_ok-step.behind.now) =
    c.steps.invariant.goes_on ∙ c.in_ok-step.ensures.goes_on
    ∙ no_comma c.in_ok-step.behind.now c.in-None.ensures.none (λ e. false≢true (c.if-is_empty.ensures ∙ eq-eqb (length c.in_ok-step.behind.now) 0 e)) in
    grind (arith, halts)

pub steps-preserved : goal.steps-preserved
steps-preserved c = record {
  good = steps_good c.push.new.steps.items c.steps.steps.items c.in_ok-step.step c.in_ok-push.ensures c.steps.invariant.good c.in_ok-step.ensures.step;
  spelled =
      steps_more c.push.new.steps.items c.steps.steps.items c.in_ok-step.step c.args.text.now c.steps.rest.now c.in_ok-step.behind.now c.in-Some.others.now c.in_ok-push.ensures c.steps.invariant.spelled
      c.in_ok-step.ensures.spelled c.in-Some.ensures.some;
  goes_on = c.steps.invariant.goes_on ∙ c.in_ok-step.ensures.goes_on ∙ behind_comma c.in_ok-step.behind.now c.in-Some.others.now c.in-Some.ensures.some;
}
