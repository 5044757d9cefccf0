use Rattle.std.proofs.Common.{◌≡◌, option_map, sym, ap, ◌∙◌}
use Rattle.std.proofs.lemmas.Result.{IfOk-weaker}
use Rattle.rb_base.specs.Names.{name_at}
use Rattle.command_model.specs.Asked.{text_asked}
use Rattle.command_numbers.specs.MappedCommands.{map_condition}
use Rattle.session_model.specs.OwnConditions as own
use Rattle.commands.specs.Actions.{map_action}
use Rattle.commands.specs.Views.{action_of, asked_by, condition_of}
use Rattle.class_table.specs.View.{image_of, number_image}
use Rattle.composites.proofs.own.first_own_false.Goals as goal

pub returns-clause-texts : goal.returns-clause-texts
returns-clause-texts g c =
    let s = c.args.image.now in
    let action = action_of c.args.action.now in
    IfOk-weaker c.first_false.result
    (λ found. option_map condition_of found ≡ own.first_own_false (asked_by s.names) (number_image s) action)
    (λ found. option_map (map_condition (name_at s.names)) (option_map condition_of found) ≡ own.first_own_false text_asked (image_of s) (map_action (name_at s.names) action))
    (λ found e. ap (option_map (map_condition (name_at s.names))) e ∙ sym (c.actions_by_numbers.ensures.own s.names (number_image s) action c.requires.orderly.names_distinct c.requires.orderly.names_known c.requires.known))
    c.first_false.ensures
