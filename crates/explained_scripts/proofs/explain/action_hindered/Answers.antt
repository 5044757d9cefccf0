use Rattle.std.proofs.Common.{Option, refl, sym, subst}
use Rattle.std.specs.Prelude.{IfSome}
use Rattle.rb_base.specs.Names.{name_at}
use Rattle.class_table.specs.View.{image_of}
use Rattle.commands.specs.Actions.{map_action}
use Rattle.commands.specs.Views.{action_of, HasSelf}
use Rattle.explained_scripts.specs.declared.judging.Refused.{Refused}
use Rattle.explained_scripts.specs.Refused.{IsRefusedAction}
use Rattle.explained_scripts.proofs.Showing.{shows-action}
use Rattle.explained_scripts.proofs.explain.action_hindered.Goals as goal

pub command_lines-requires-clause-self_known : goal.command_lines-requires-clause-self_known
command_lines-requires-clause-self_known g c = subst HasSelf (sym c.refused_of.ensures.names) c.requires.self_known

pub returns : goal.returns
returns g c =
    let s = c.args.image.now in
    let x = map_action (name_at s.names) (action_of c.args.action) in
    let is : IsRefusedAction (image_of s) x c.refused_of.new.image c.in-Some.refused =
    subst (λ (o : Option Refused). IfSome o (IsRefusedAction (image_of s) x c.refused_of.new.image)) c.in-Some.is c.in_ok-refused.ensures.found in
    shows-action s c.refused_of.new.image c.args.session.now x c.in-Some.refused _ is refl c.in_ok-lines.ensures
