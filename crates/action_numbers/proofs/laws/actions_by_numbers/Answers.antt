use Rattle.action_numbers.proofs.Own.{own-numbers}
use Rattle.action_numbers.proofs.Stepwise.{steps-known, steps-numbers}
use Rattle.action_numbers.proofs.laws.actions_by_numbers.Goals as goal

pub returns-clause-own : goal.returns-clause-own
returns-clause-own c = λ names i action distinct known h. own-numbers c.commands_by_numbers.ensures.holds names i distinct known action h

pub returns-clause-steps : goal.returns-clause-steps
returns-clause-steps c = λ names i action distinct known h.
    steps-numbers names i c.commands_by_numbers.ensures.holds c.law_listed.ensures.used c.law_complete.ensures.sequence distinct known action h

pub returns-clause-known : goal.returns-clause-known
returns-clause-known c = λ names i action known h. steps-known names i known action h
