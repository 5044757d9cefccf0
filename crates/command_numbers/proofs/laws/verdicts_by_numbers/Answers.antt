use Rattle.std.proofs.Common.{Ok, Err}
use Rattle.command_numbers.proofs.AtNumbers.{verdict}
use Rattle.command_numbers.proofs.laws.verdicts_by_numbers.Goals as goal

pub returns-clause-accepted : goal.returns-clause-accepted
returns-clause-accepted c = λ names n parts i j command distinct p q still e. verdict names n parts distinct i command p q still (Ok j) e

pub returns-clause-refused : goal.returns-clause-refused
returns-clause-refused c = λ names n parts i command condition distinct p q still e. verdict names n parts distinct i command p q still (Err condition) e
