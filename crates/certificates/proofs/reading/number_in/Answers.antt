use Rattle.std.proofs.Common.{◌<◌, ◌≤◌, ◌∙◌, arith}
use Rattle.certificates.proofs.Digits.{one_digit, one_more}
use Rattle.certificates.proofs.Stopping.{first_of_number, more_of_number, whole_zero, whole_long}
use Rattle.certificates.proofs.reading.number_in.Goals as goal

pub returns-then-first-eq0-clause-goes_on : goal.returns-then-first-eq0-clause-goes_on
returns-then-first-eq0-clause-goes_on c =
    first_of_number c.args.text.now c.in-Some.behind.now c.in-Some.first c.in-Some.ensures.some.0 c.in-Some.ensures.some.1 ∙ whole_zero c.in-Some.behind.now c.in-Some.first c.if-first-eq0.true

pub digits-init : goal.digits-init
digits-init c = record {
  from_one = omega arith;
  nine = omega (arith, c.in-Some.ensures.some.0);
  spelled = one_digit c.args.text.now c.in-Some.behind.now c.in-Some.first c.in-Some.ensures.some.0 c.in-Some.ensures.some.1;
  goes_on = first_of_number c.args.text.now c.in-Some.behind.now c.in-Some.first c.in-Some.ensures.some.0 c.in-Some.ensures.some.1;
}

pub digits-preserved : goal.digits-preserved
digits-preserved c =
    let above : 1 ≤ c.digits.number = c.digits.invariant.from_one in
    let digit : c.in-Some-digit_in.digit ≤ 9 = c.in-Some-digit_in.ensures.some.0 in
    let below : c.digits.number < 100000000 = omega arith in
    record {
      from_one = omega (arith, above);
      nine = omega (arith, below, digit);
      spelled = one_more c.args.text.now c.digits.rest.now c.in-Some-digit_in.others.now c.digits.number c.in-Some-digit_in.digit above below digit c.digits.invariant.spelled c.in-Some-digit_in.ensures.some.1;
      goes_on = c.digits.invariant.goes_on ∙ more_of_number c.digits.rest.now c.in-Some-digit_in.others.now c.digits.number c.in-Some-digit_in.digit above below digit c.in-Some-digit_in.ensures.some.1;
    }

pub returns-clause-goes_on : goal.returns-clause-goes_on
returns-clause-goes_on c =
    let long : 100000000 ≤ c.digits.number = omega arith in
    c.digits.invariant.goes_on ∙ whole_long c.digits.rest.now c.digits.number long
