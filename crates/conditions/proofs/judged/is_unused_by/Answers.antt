use Rattle.std.proofs.Common.{◌≡◌, ◌∙◌, Bool}
use Rattle.std.proofs.lemmas.Result.{IfOk-weaker}
use Rattle.image_model.specs.Words.{number_words}
use Rattle.class_table.specs.View.{number_image}
use Rattle.command_model.specs.VariableConditions.{is_unused_for}
use Rattle.commands.specs.Views.{command_of, move_command}
use Rattle.conditions.proofs.judged.is_unused_by.Goals as goal

pub returns : goal.returns
returns g c =
    IfOk-weaker {X = Bool} c.is_unused.result
    (λ is. is ≡ is_unused_for (number_words c.args.image.now.names) (number_image c.args.image.now) (move_command c.leaving-change.result) c.args.class c.args.variable)
    (λ is. is ≡ is_unused_for (number_words c.args.image.now.names) (number_image c.args.image.now) (command_of c.args.command.now) c.args.class c.args.variable)
    (λ is e. e ∙ c.leaving-change.ensures (number_words c.args.image.now.names) (number_image c.args.image.now) c.args.class c.args.variable) c.is_unused.ensures
