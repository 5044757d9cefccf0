use Rattle.std.proofs.Common.{◌<◌, length}
use Rattle.command_model.specs.Numbers.{number_asked}
use Rattle.code_command_numbers.proofs.AllNamed.{all_needs-names}
use Rattle.code_command_numbers.proofs.AtNumbers.{needs-more, holds-more, first_false-more, effect-more, judged-more}
use Rattle.code_command_numbers.proofs.Tables.{IsNumberOfSelf-more}
use Rattle.code_command_numbers.proofs.laws.all_commands_in_longer_tables.Goals as goal

pub returns-clause-is_self : goal.returns-clause-is_self
returns-clause-is_self c = λ names more n self. IsNumberOfSelf-more names more n self

pub returns-clause-needs : goal.returns-clause-needs
returns-clause-needs c = λ names more n parts i command known p q.
    needs-more names more n parts known i p (λ k t still. c.commands_in_longer_tables.ensures.needs names more n parts i k p t still) command q

pub returns-clause-holds : goal.returns-clause-holds
returns-clause-holds c = λ names more n parts i command condition known p q r.
    holds-more names more n parts known i p (λ k l t u still. c.commands_in_longer_tables.ensures.holds names more n parts i k l p t u still) command condition q r

pub returns-clause-first_false : goal.returns-clause-first_false
returns-clause-first_false c = λ names more n parts i command known p q.
    first_false-more names more n parts known i p command (returns-clause-needs c names more n parts i command known p q) (λ condition r. returns-clause-holds c names more n parts i command condition known p q r)
    (all_needs-names (λ k. k < length names) (number_asked names n parts) known i p (λ k t still. c.numbers_of_commands.ensures.needs names n parts i k p t still) command q)

pub returns-clause-effect : goal.returns-clause-effect
returns-clause-effect c = λ names more n parts i command known p q.
    effect-more names more n parts known i p (λ k t still. c.commands_in_longer_tables.ensures.effect names more n parts i k p t still) command q

pub returns-clause-judged : goal.returns-clause-judged
returns-clause-judged c = λ names more n parts i command known p q.
    judged-more names more n parts known i p command (returns-clause-first_false c names more n parts i command known p q) (returns-clause-effect c names more n parts i command known p q)
