use Rattle.command_numbers.proofs.AtNumbers.{needs-more, holds-more, first_false-more, effect-more, judged-more}
use Rattle.command_numbers.proofs.laws.commands_in_longer_tables.Goals as goal

pub returns-clause-needs : goal.returns-clause-needs
returns-clause-needs c = λ names more n parts i command p q still. needs-more names more n parts i command p q still

pub returns-clause-holds : goal.returns-clause-holds
returns-clause-holds c = λ names more n parts i command condition p q r still. holds-more names more n parts i command p q condition r still

pub returns-clause-first_false : goal.returns-clause-first_false
returns-clause-first_false c = λ names more n parts i command p q still. first_false-more names more n parts i command p q still

pub returns-clause-effect : goal.returns-clause-effect
returns-clause-effect c = λ names more n parts i command p q still. effect-more names more n parts i command p q still

pub returns-clause-judged : goal.returns-clause-judged
returns-clause-judged c = λ names more n parts i command p q still. judged-more names more n parts i command p q still
