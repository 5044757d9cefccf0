use Rattle.std.proofs.Common.{IsTrue}
use Rattle.image_model.specs.Image.{map_image}
use Rattle.command_numbers.specs.MappedCommands.{map_command}
use Rattle.code_command_numbers.proofs.AllNamed.{first_by, judged_by, all_needs-names, all_needs-named, all_holds-named, all_effect-named}
use Rattle.code_command_numbers.proofs.laws.all_commands_by_names.Goals as goal

pub returns-clause-needs : goal.returns-clause-needs
returns-clause-needs g c = λ f p a b i command keeps s t.
    all_needs-named (λ n. IsTrue (p n)) f a b keeps i s (λ k q still. c.commands_by_names.ensures.needs f p a b i k keeps.asked s q still) command t

pub returns-clause-holds : goal.returns-clause-holds
returns-clause-holds g c = λ f p a b i command condition keeps s t u.
    all_holds-named (λ n. IsTrue (p n)) f a b keeps i s (λ k q r v still. c.commands_by_names.ensures.holds f p a b i k q keeps.asked s r v still) command condition t u

pub returns-clause-first_false : goal.returns-clause-first_false
returns-clause-first_false g c = λ f p a b i command keeps s t.
    first_by (λ n. IsTrue (p n)) f a b i (map_image f i) command (map_command f command) (returns-clause-needs g c f p a b i command keeps s t)
    (λ condition u. returns-clause-holds g c f p a b i command condition keeps s t u)
    (all_needs-names (λ n. IsTrue (p n)) a keeps.self_known i s (λ k q still. c.names_of_commands.ensures.needs p a i k s q still) command t)

pub returns-clause-effect : goal.returns-clause-effect
returns-clause-effect g c = λ f p a b writing writing_there i command keeps written s t.
    all_effect-named (λ n. IsTrue (p n)) f a b keeps i s writing writing_there written (λ k q still. c.commands_by_names.ensures.effect f p a b writing writing_there i k keeps.asked written s q still) command t

pub returns-clause-judged : goal.returns-clause-judged
returns-clause-judged g c = λ f p a b writing writing_there i command keeps written s t.
    judged_by (λ n. IsTrue (p n)) f a b i (map_image f i) command (map_command f command) writing writing_there (returns-clause-first_false g c f p a b i command keeps s t)
    (returns-clause-effect g c f p a b writing writing_there i command keeps written s t)
