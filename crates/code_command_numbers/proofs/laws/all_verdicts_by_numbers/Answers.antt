use Rattle.std.proofs.Common.{Ok, Err}
use Rattle.code_command_numbers.proofs.AtNumbers.{verdict}
use Rattle.code_command_numbers.proofs.laws.all_verdicts_by_numbers.Goals as goal

pub returns-clause-accepted : goal.returns-clause-accepted
returns-clause-accepted c = λ names n parts i j command distinct self p q e.
    verdict names n parts distinct self i p command (Ok j) (c.all_commands_by_numbers.ensures.judged names n parts i command distinct self p q) e

pub returns-clause-refused : goal.returns-clause-refused
returns-clause-refused c = λ names n parts i command condition distinct self p q e.
    verdict names n parts distinct self i p command (Err condition) (c.all_commands_by_numbers.ensures.judged names n parts i command distinct self p q) e
