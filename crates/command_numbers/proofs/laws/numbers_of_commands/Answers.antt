use Rattle.command_numbers.proofs.AtNumbers.{needs-numbers, first_false-numbers, effect-numbers, judged-numbers}
use Rattle.command_numbers.proofs.laws.numbers_of_commands.Goals as goal

pub returns-clause-needs : goal.returns-clause-needs
returns-clause-needs c = λ names n parts i command p q still. needs-numbers names n parts i command p q still

pub returns-clause-first_false : goal.returns-clause-first_false
returns-clause-first_false c = λ names n parts i command p q still. first_false-numbers names n parts i command p q still

pub returns-clause-effect : goal.returns-clause-effect
returns-clause-effect c = λ names n parts i command p q still. effect-numbers names n parts i command p q still

pub returns-clause-judged : goal.returns-clause-judged
returns-clause-judged c = λ names n parts i command p q still. judged-numbers names n parts i command p q still
