use Rattle.class_table.specs.View.{number_image}
use Rattle.command_model.specs.PartsOfText.{parts_of_text}
use Rattle.commands.specs.Views.{self_in}
use Rattle.parameter_plans.specs.Given.{parameter_command}
use Rattle.parameter_plans.proofs.Planned.{known-after, moves-none}
use Rattle.parameter_plans.proofs.laws.law_known.Goals as goal

pub returns : goal.returns
returns c = λ s change o known. known-after s change (c.numbers_of_commands.ensures.effect s.names (self_in s.names) parts_of_text (number_image s) (parameter_command change) o.names_known known (moves-none change))
