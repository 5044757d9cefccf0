use Rattle.std.proofs.Common.{◌≡◌, map, Err, sym, ap, subst, ◌∙◌}
use Rattle.std.specs.List.{AllByRecursion}
use Rattle.std.proofs.lemmas.Result.{err_from_is_err_and}
use Rattle.rb_base.specs.Names.{name_at}
use Rattle.history_model.specs.Rules.{Perform}
use Rattle.history_model.specs.History.{stepped}
use Rattle.session_model.specs.Scripts.{History, rules}
use Rattle.commands.specs.Actions.{map_action}
use Rattle.commands.specs.Views.{action_of}
use Rattle.reference_index.specs.Mentioned.{IsIndexOf}
use Rattle.session.specs.Log.{Log}
use Rattle.session.specs.History.{history_of}
use Rattle.session.specs.Stepping.{IsStepped, after_commands}
use Rattle.session.specs.declared.refusal.StepRefusal.TheVariants as refusal
use Rattle.session.proofs.Each.{text_in, IsKnownIn}
use Rattle.session.proofs.Logs.{is-index}
use Rattle.session.proofs.Steps.{Outcome, stays, own-true, stepped-since, refused-since}
use Rattle.session.proofs.session.Session.perform.Goals as goal

pub returns-in_err-judge : goal.returns-in_err-judge
returns-in_err-judge g c =
    let s = c.args.image.now in
    let p = err_from_is_err_and c.from_residual.result c.from_residual.ensures.1 in
    let made = c.in_err-judge.ensures in
    rw (p.1, p.2) (
    refused-since s c.args.self.now c.judge.new.self (stepped rules (history_of s c.args.self.now) (Perform (map_action (name_at s.names) (action_of c.args.action)))) made.same made.log c.in_err-judge.field-0.0 made.refused)

pub steps_of-requires-clause-index : goal.steps_of-requires-clause-index
steps_of-requires-clause-index g c =
    let log = c.judge.new.self in
    subst (λ (l : Log). IsIndexOf c.args.image.now l.index) (sym c.self.view_is) (is-index c.args.image.now log.index log.stale c.in_ok-judge.ensures.renewed c.in_ok-judge.ensures.log.index)

pub returns-in_err-commands : goal.returns-in_err-commands
returns-in_err-commands g c =
    let s = c.args.image.now in
    let p = err_from_is_err_and c.from_residual-in_err-commands.result c.from_residual-in_err-commands.ensures.1 in
    let log = c.judge.new.self in
    let judged = c.in_ok-judge.ensures in
    let wanted = stepped rules (history_of s c.args.self.now) (Perform (map_action (name_at s.names) (action_of c.args.action))) in
    rw (p.1, p.2) (
    stepped-since s c.args.self.now log wanted judged.same s log (Err refusal.Memory) (stays s log wanted judged.log))

pub perform_all-requires-clause-known : goal.perform_all-requires-clause-known
perform_all-requires-clause-known g c = subst (AllByRecursion (IsKnownIn c.args.image.now.names)) (sym c.as_slice.ensures.value) c.in_ok-commands.ensures.known

pub returns : goal.returns
returns g c =
    let s = c.args.image.now in
    let names = s.names in
    let former = c.args.self.now in
    let log = c.judge.new.self in
    let action = map_action (name_at names) (action_of c.args.action) in
    let commands = map (text_in names) c.as_slice.result.now in
    let judged = c.in_ok-judge.ensures in
    let same = own-true (history_of s former) action commands judged.accepted (ap (map (text_in names)) c.as_slice.ensures.value ∙ c.in_ok-commands.ensures.commands) in
    let wanted : after_commands (history_of s log) commands ≡ stepped rules (history_of s former) (Perform action) = ap (λ (h : History). after_commands h commands) judged.same ∙ same in
    stepped-since s former log (stepped rules (history_of s former) (Perform action)) judged.same c.perform_all.new.image c.perform_all.new.self c.perform_all.result (
    subst (λ (o : Outcome). IsStepped s log o c.perform_all.new.image c.perform_all.new.self c.perform_all.result) wanted c.perform_all.ensures)
