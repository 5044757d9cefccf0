use Rattle.std.proofs.Common.{sym, ap, subst, ◌∙◌}
use Rattle.std.specs.Prelude.{◌<◌, length, Option, option_map}
use Rattle.image_model.specs.ImageNames.{OptionNames}
use Rattle.command_numbers.specs.CommandNames.{ConditionNames}
use Rattle.commands.specs.Views.{condition_of}
use Rattle.commands.specs.declared.condition.Condition.{Condition}
use Rattle.explained_scripts.proofs.RefusedSteps.{refused-single}
use Rattle.explained_scripts.proofs.judging.refused_single.Goals as goal

pub returns-in-Some : goal.returns-in-Some
returns-in-Some g c =
    let s = c.args.image.now in
    refused-single c.all_commands_by_numbers.ensures.first_false s c.requires.log.orderly c.requires.self_known c.args.command c.requires.known c.in-Some.condition
    (sym (ap (λ (o : Option Condition). option_map condition_of o) c.in-Some.is) ∙ c.in_ok-first_false.ensures.first)
    (subst (λ (o : Option Condition). OptionNames (λ q. ConditionNames (λ n. n < length s.names) (condition_of q)) o) c.in-Some.is c.in_ok-first_false.ensures.known)
