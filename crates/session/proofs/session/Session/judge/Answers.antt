use Rattle.std.proofs.Common.{Option, option_map, sym, ap, subst, ◌∙◌}
use Rattle.rb_base.specs.Names.{name_at}
use Rattle.command_numbers.specs.MappedCommands.{map_condition}
use Rattle.commands.specs.Views.{condition_of}
use Rattle.commands.specs.declared.condition.Condition.{Condition}
use Rattle.reference_index.specs.Mentioned.{IsIndexOf}
use Rattle.session.specs.Log.{Log}
use Rattle.session.proofs.Logs.{is-index}
use Rattle.session.proofs.session.Session.judge.Goals as goal

pub first_own_false-requires-clause-index : goal.first_own_false-requires-clause-index
first_own_false-requires-clause-index g c =
    let log = c.renew.new.self in
    subst (λ (l : Log). IsIndexOf c.args.image.now l.index) (sym c.self.view_is) (is-index c.args.image.now log.index log.stale c.in_ok-renew.ensures.renewed c.in_ok-renew.ensures.log.index)

pub returns-clause-accepted : goal.returns-clause-accepted
returns-clause-accepted g c =
    sym c.in_ok-condition.ensures.texts ∙ ap (λ (o : Option Condition). option_map (map_condition (name_at c.args.image.now.names)) (option_map condition_of o)) c.in_default.is
