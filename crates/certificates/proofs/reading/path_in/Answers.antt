use Rattle.std.proofs.Common.{◌∙◌, rules}
use Rattle.certificates.proofs.Joined.{path_done, path_more, all_more}
use Rattle.certificates.proofs.Stopping.{no_path, some_path, behind_period, no_period}
use Rattle.certificates.proofs.reading.path_in.Goals as goal

pub returns-in_default-clause-goes_on : goal.returns-in_default-clause-goes_on
returns-in_default-clause-goes_on c = no_path c.args.text.now c.in_default.ensures.none

pub numbers-init : goal.numbers-init
numbers-init c = record {
  good = search rules;
  spelled = search rules;
  goes_on = some_path c.args.text.now c.in-Some._behind.now c.in-Some._first c.in-Some.ensures.some.0 c.in-Some.ensures.some.1;
}

pub numbers-preserved : goal.numbers-preserved
numbers-preserved c = record {
  good = all_more c.push.new.self c.numbers.path c.in_ok-number.number c.in_ok-push.ensures.ok c.numbers.invariant.good c.in_ok-number.ensures.number;
  spelled =
      path_more c.push.new.self c.numbers.path c.in_ok-number.number c.args.text.now c.numbers.rest.now c.in_ok-number.behind.now c.in-Some-behind_byte.others.now c.in_ok-push.ensures.ok c.numbers.invariant.spelled
      c.in_ok-number.ensures.spelled c.in-Some-behind_byte.ensures.some;
  goes_on = c.numbers.invariant.goes_on ∙ c.in_ok-number.ensures.goes_on ∙ behind_period c.in_ok-number.behind.now c.in-Some-behind_byte.others.now c.in-Some-behind_byte.ensures.some;
}

pub returns-in-None-clause-spelled : goal.returns-in-None-clause-spelled
returns-in-None-clause-spelled c =
    path_done c.push.new.self c.numbers.path c.in_ok-number.number c.args.text.now c.numbers.rest.now c.in_ok-number.behind.now c.in_ok-push.ensures.ok c.numbers.invariant.spelled c.in_ok-number.ensures.spelled

pub returns-in-None-clause-goes_on : goal.returns-in-None-clause-goes_on
returns-in-None-clause-goes_on c = c.numbers.invariant.goes_on ∙ c.in_ok-number.ensures.goes_on ∙ no_period c.in_ok-number.behind.now c.in-None.ensures.none
