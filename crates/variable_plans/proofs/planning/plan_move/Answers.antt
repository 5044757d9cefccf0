use Rattle.class_table.specs.View.{number_image}
use Rattle.command_model.specs.PartsOfText.{parts_of_text}
use Rattle.commands.specs.Views.{move_command, self_in}
use Rattle.variable_plans.proofs.Moved.{is-plan, shape-kept}
use Rattle.variable_plans.proofs.planning.plan_move.Goals as goal

pub returns : goal.returns
returns c =
    let s = c.args.image.now in
    let m = c.args.change.now in
    is-plan s c.requires.orderly m c.in_ok-changes.changes c.new.result.items
    (c.numbers_of_commands.ensures.effect s.names (self_in s.names) parts_of_text (number_image s) (move_command m) c.requires.orderly.names_known c.requires.known (shape-kept m))
    c.in_ok-changes.ensures c.new.ensures.items
