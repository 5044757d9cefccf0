use Rattle.std.proofs.Common.{List, map, refl, sym, ap, subst, ◌∙◌}
use Rattle.std.specs.List.{AllByRecursion}
use Rattle.std.proofs.lemmas.Result.{err_from_is_err_and}
use Rattle.rb_base.specs.Names.{name_at, text_eq}
use Rattle.run_model.specs.Values.{Name}
use Rattle.rename_model.specs.ClassRenamed.{canonical}
use Rattle.class_table.specs.View.{image_of}
use Rattle.command_model.specs.Commands.{CommandOf}
use Rattle.session_model.specs.Steps.{steps_of}
use Rattle.commands.specs.Actions.{map_action}
use Rattle.commands.specs.Views.{action_of}
use Rattle.wider_slots.proofs.StepLemmas.{wider-same}
use Rattle.session.specs.Stepping.{IsCarriedOut}
use Rattle.session.proofs.Each.{text_in, IsKnownIn}
use Rattle.session.proofs.UnderWay.{carried-wanting}
use Rattle.session.proofs.performing.perform_steps.Goals as goal

pub perform_each-requires-clause-known : goal.perform_each-requires-clause-known
perform_each-requires-clause-known g c = subst (AllByRecursion (IsKnownIn c.args.image.now.names)) (sym c.as_slice.ensures.value) c.in_ok-commands.ensures.known

pub returns-in_err-commands : goal.returns-in_err-commands
returns-in_err-commands g c =
    let s = c.args.image.now in
    let p = err_from_is_err_and c.from_residual.result c.from_residual.ensures.1 in
    rw (p.1, p.2) (
    carried-wanting s s c.args.index.now c.args.index.now c.args.done.now c.args.done.now (steps_of text_eq (image_of s) canonical (map_action (name_at s.names) (action_of c.args.action))) (wider-same s c.requires.under_way.1.closed) refl refl refl)

pub returns : goal.returns
returns g c =
    let s = c.args.image.now in
    subst (λ (commands : List (CommandOf Name)). IsCarriedOut s c.args.index.now c.args.done.now commands c.perform_each.new.image c.perform_each.new.index c.perform_each.new.done c.perform_each.result)
    (ap (map (text_in s.names)) c.as_slice.ensures.value ∙ c.in_ok-commands.ensures.commands) c.perform_each.ensures
