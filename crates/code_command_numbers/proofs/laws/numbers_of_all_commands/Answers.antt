use Rattle.std.proofs.Common.{◌<◌, length}
use Rattle.command_model.specs.Numbers.{number_asked, number_writing}
use Rattle.code_command_numbers.proofs.AllNamed.{all_needs-names, all_first_false-names, all_effect-names, all_judged-names}
use Rattle.code_command_numbers.proofs.laws.numbers_of_all_commands.Goals as goal

pub returns-clause-needs : goal.returns-clause-needs
returns-clause-needs c = λ names n parts i command known p q.
    all_needs-names (λ k. k < length names) (number_asked names n parts) known i p (λ k t still. c.numbers_of_commands.ensures.needs names n parts i k p t still) command q

pub returns-clause-first_false : goal.returns-clause-first_false
returns-clause-first_false c = λ names n parts i command known p q.
    all_first_false-names (λ k. k < length names) (number_asked names n parts) known i p (λ k t still. c.numbers_of_commands.ensures.needs names n parts i k p t still) command q

pub returns-clause-effect : goal.returns-clause-effect
returns-clause-effect c = λ names n parts i command known p q.
    all_effect-names (λ k. k < length names) (number_asked names n parts) known i p (number_writing names) (λ k t still. c.numbers_of_commands.ensures.effect names n parts i k p t still) command q

pub returns-clause-judged : goal.returns-clause-judged
returns-clause-judged c = λ names n parts i command known p q.
    all_judged-names (λ k. k < length names) (number_asked names n parts) known i p (number_writing names) (λ k t still. c.numbers_of_commands.ensures.effect names n parts i k p t still) command q
