use Rattle.std.proofs.Common.{IsTrue}
use Rattle.command_numbers.proofs.Named.{needs-names, effect-names}
use Rattle.command_numbers.proofs.laws.names_of_commands.Goals as goal

pub returns-clause-needs : goal.returns-clause-needs
returns-clause-needs g c = λ p a i command s t still. needs-names (λ n. IsTrue (p n)) a i command s t still

pub returns-clause-effect : goal.returns-clause-effect
returns-clause-effect g c = λ p a writing i command s t still. effect-names (λ n. IsTrue (p n)) a writing i command s t still
