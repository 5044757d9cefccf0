use Rattle.class_table.specs.View.{number_image}
use Rattle.command_model.specs.PartsOfText.{parts_of_text}
use Rattle.abstract_plans.specs.Abstracted.{abstraction_command}
use Rattle.abstract_plans.proofs.Known.{known-after}
use Rattle.abstract_plans.proofs.laws.law_known.Goals as goal

pub returns : goal.returns
returns c = λ s a o known self_known. known-after s a (c.numbers_of_all_commands.ensures.effect s.names a.self_name parts_of_text (number_image s) (abstraction_command a) self_known o.names_known known)
