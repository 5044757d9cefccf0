use Rattle.std.proofs.Common.{◌<◌, length}
use Rattle.rb_base.specs.Names.{name_at}
use Rattle.image_model.specs.Image.{map_image}
use Rattle.rename_model.specs.ClassRenamed.{canonical}
use Rattle.command_model.specs.Asked.{asked_of_texts}
use Rattle.command_model.specs.Numbers.{number_asked, number_writing}
use Rattle.command_numbers.specs.MappedCommands.{map_command}
use Rattle.code_command_numbers.proofs.AllNamed.{first_by, judged_by, all_needs-names}
use Rattle.code_command_numbers.proofs.AtNumbers.{needs-texts, holds-texts, effect-texts}
use Rattle.code_command_numbers.proofs.laws.all_commands_by_numbers.Goals as goal

pub returns-clause-needs : goal.returns-clause-needs
returns-clause-needs c = λ names n parts i command distinct self p q.
    needs-texts names n parts distinct self i p (λ k t still. c.commands_by_numbers.ensures.needs names n parts i k distinct p t still) command q

pub returns-clause-holds : goal.returns-clause-holds
returns-clause-holds c = λ names n parts i command condition distinct self p q r.
    holds-texts names n parts distinct self i p (λ k l t u still. c.commands_by_numbers.ensures.holds names n parts i k l distinct p t u still) command condition q r

pub returns-clause-first_false : goal.returns-clause-first_false
returns-clause-first_false c = λ names n parts i command distinct self p q.
    first_by (λ k. k < length names) (name_at names) (number_asked names n parts) (asked_of_texts parts) i (map_image (name_at names) i) command (map_command (name_at names) command)
    (returns-clause-needs c names n parts i command distinct self p q) (λ condition r. returns-clause-holds c names n parts i command condition distinct self p q r)
    (all_needs-names (λ k. k < length names) (number_asked names n parts) self.known i p (λ k t still. c.numbers_of_commands.ensures.needs names n parts i k p t still) command q)

pub returns-clause-effect : goal.returns-clause-effect
returns-clause-effect c = λ names n parts i command distinct self p q.
    effect-texts names n parts distinct self i p (λ k t still. c.commands_by_numbers.ensures.effect names n parts i k distinct p t still) command q

pub returns-clause-judged : goal.returns-clause-judged
returns-clause-judged c = λ names n parts i command distinct self p q.
    judged_by (λ k. k < length names) (name_at names) (number_asked names n parts) (asked_of_texts parts) i (map_image (name_at names) i) command (map_command (name_at names) command) (number_writing names) canonical
    (returns-clause-first_false c names n parts i command distinct self p q) (returns-clause-effect c names n parts i command distinct self p q)
