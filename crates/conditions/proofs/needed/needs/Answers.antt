use Rattle.std.proofs.Common.{◌<◌, length}
use Rattle.std.proofs.lemmas.Result.{IfOk-weaker}
use Rattle.class_table.specs.View.{number_image}
use Rattle.command_model.specs.PartsOfText.{parts_of_text}
use Rattle.command_model.specs.Needs.{needs}
use Rattle.command_numbers.specs.CommandNames.{ConditionNames}
use Rattle.commands.specs.Views.{asked_by, command_of, self_in}
use Rattle.conditions.specs.Concerns.{Concerns}
use Rattle.conditions.proofs.NamesKnown.{found-all, concerned}
use Rattle.conditions.proofs.SelfKnown.{self-known}
use Rattle.conditions.proofs.needed.needs.Goals as goal

pub returns-clause-known : goal.returns-clause-known
returns-clause-known g c =
    let s = c.args.image.now in
    let command = c.args.command.now in
    IfOk-weaker _ _ _ (λ found. found-all (ConditionNames (λ n. n < length s.names)) (needs (asked_by s.names) (number_image s) (command_of command)) found.items
    (c.numbers_of_all_commands.ensures.needs s.names (self_in s.names) parts_of_text (number_image s) (command_of command) (self-known s.names command c.requires.known) (c.requires.orderly).names_known c.requires.known))
    c.listed.ensures

pub returns-clause-concern : goal.returns-clause-concern
returns-clause-concern g c =
    let s = c.args.image.now in
    let command = c.args.command.now in
    IfOk-weaker _ _ _ (λ found. found-all (Concerns (number_image s) (command_of command)) (needs (asked_by s.names) (number_image s) (command_of command)) found.items
    (concerned s c.requires.orderly command))
    c.listed.ensures
