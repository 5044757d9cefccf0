use Rattle.std.proofs.Common.{Option, option_map, sym, ap, ◌∙◌}
use Rattle.std.proofs.lemmas.Result.{err_from_is_err_and}
use Rattle.rb_base.specs.Names.{name_at}
use Rattle.command_numbers.specs.MappedCommands.{map_condition}
use Rattle.commands.specs.Actions.{map_action}
use Rattle.commands.specs.Views.{action_of, condition_of}
use Rattle.commands.specs.declared.condition.Condition.{Condition}
use Rattle.session.proofs.Groups.{acted-false, acted-wanting, acted-steps}
use Rattle.session.proofs.performing.perform_action.Goals as goal

pub returns-in_err-condition : goal.returns-in_err-condition
returns-in_err-condition g c =
    let s = c.args.image.now in
    let p = err_from_is_err_and c.from_residual.result c.from_residual.ensures.1 in
    rw (p.1, p.2) (acted-wanting s c.args.index.now c.args.done.now (map_action (name_at s.names) (action_of c.args.action.now)))

pub returns-in-Some : goal.returns-in-Some
returns-in-Some g c =
    let s = c.args.image.now in
    acted-false s c.args.index.now c.args.done.now (map_action (name_at s.names) (action_of c.args.action.now)) c.in-Some.condition
    (sym c.in_ok-condition.ensures.texts ∙ ap (λ (o : Option Condition). option_map (map_condition (name_at s.names)) (option_map condition_of o)) c.in-Some.is)

pub returns : goal.returns
returns g c =
    let s = c.args.image.now in
    acted-steps s c.args.index.now c.args.done.now (map_action (name_at s.names) (action_of c.args.action.now)) c.perform_steps_of.new.image c.perform_steps_of.new.index c.perform_steps_of.new.done c.perform_steps_of.result
    (sym c.in_ok-condition.ensures.texts ∙ ap (λ (o : Option Condition). option_map (map_condition (name_at s.names)) (option_map condition_of o)) c.in_default.is) c.perform_steps_of.ensures
