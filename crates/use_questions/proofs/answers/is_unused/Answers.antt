use Rattle.std.proofs.Common.{sym, ◌∙◌}
use Rattle.class_table.specs.View.{number_image}
use Rattle.commands.specs.Views.{move_command}
use Rattle.use_questions.proofs.Answered.{unused}
use Rattle.use_questions.proofs.answers.is_unused.Goals as goal

pub returns : goal.returns
returns g c =
    unused c.args.image.now c.in_ok-is_found.field-0 c.args.class (move_command c.args.change.now) c.looked_through.result (c.looked_through.ensures.methods (number_image c.args.image.now)) c.looked_through.ensures.doits c.kind_of-kind.result c.args.variable
    c.in_ok-is_found.ensures c.kind_of-kind.ensures (sym c.has_variable.ensures ∙ c.if-not-has_variable.false)
