use Rattle.std.proofs.Common.{map, Ok, Err}
use Rattle.rb_base.specs.Names.{name_at}
use Rattle.ruled_model.specs.RuledScripts.{Acts, Applies}
use Rattle.commands.specs.Actions.{map_action}
use Rattle.commands.specs.Views.{action_of}
use Rattle.certificates.specs.Asked.{command_in}
use Rattle.certificates.specs.Shown.{step_shown}
use Rattle.session.specs.Refused.{step_told, rule_told}
use Rattle.session.proofs.Groups.{acted-made, nth-made, nth-refused}
use Rattle.session.proofs.grouping.perform_nth.Goals as goal

pub returns-in-Ok : goal.returns-in-Ok
returns-in-Ok g c =
    let s = c.args.image.now in
    let action = map_action (name_at s.names) (action_of c.in-Action.action) in
    let new = c.perform_action.new in
    rw c.in-Action.is (
    nth-made c.args.nth (Acts action) s c.args.index.now c.args.done.now new.image new.index new.done step_told
    (acted-made c.law_without_rules.ensures.step s c.args.index.now c.args.done.now action new.image new.index new.done (Ok tt) c.in-Ok.ensures))

pub returns-in-Err : goal.returns-in-Err
returns-in-Err g c =
    let s = c.args.image.now in
    let action = map_action (name_at s.names) (action_of c.in-Action.action) in
    let new = c.perform_action.new in
    rw c.in-Action.is (
    nth-refused c.args.nth (Acts action) s c.args.index.now c.args.done.now new.image new.index new.done step_told c.in-Err.refusal c.at.result c.at.ensures
    (acted-made c.law_without_rules.ensures.step s c.args.index.now c.args.done.now action new.image new.index new.done (Err c.in-Err.refusal) c.in-Err.ensures))

pub returns-in-Err-perform_rule : goal.returns-in-Err-perform_rule
returns-in-Err-perform_rule g c =
    let s = c.args.image.now in
    let request = c.in-Rule.request in
    let new = c.perform_rule.new in
    rw c.in-Rule.is (
    nth-refused c.args.nth (Applies (command_in s.names request)) s c.args.index.now c.args.done.now new.image new.index new.done (rule_told (map step_shown request.certificate.steps.items)) c.in-Err-perform_rule.refusal c.at-in-Err-perform_rule.result
    c.at-in-Err-perform_rule.ensures c.in-Err-perform_rule.ensures)
