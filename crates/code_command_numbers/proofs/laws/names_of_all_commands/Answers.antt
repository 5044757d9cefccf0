use Rattle.std.proofs.Common.{IsTrue}
use Rattle.code_command_numbers.proofs.AllNamed.{all_needs-names, all_first_false-names, all_effect-names}
use Rattle.code_command_numbers.proofs.laws.names_of_all_commands.Goals as goal

pub returns-clause-needs : goal.returns-clause-needs
returns-clause-needs g c = λ p a i command known s t. all_needs-names (λ n. IsTrue (p n)) a known i s (λ k q still. c.names_of_commands.ensures.needs p a i k s q still) command t

pub returns-clause-first_false : goal.returns-clause-first_false
returns-clause-first_false g c = λ p a i command known s t. all_first_false-names (λ n. IsTrue (p n)) a known i s (λ k q still. c.names_of_commands.ensures.needs p a i k s q still) command t

pub returns-clause-effect : goal.returns-clause-effect
returns-clause-effect g c = λ p a writing i command known s t.
    all_effect-names (λ n. IsTrue (p n)) a known i s writing (λ k q still. c.names_of_commands.ensures.effect p a writing i k s q still) command t
