use Rattle.std.proofs.Common.{sym, subst}
use Rattle.std.proofs.lemmas.Result.{err_from_is_err_and}
use Rattle.rb_base.specs.Names.{name_at}
use Rattle.history_model.specs.Rules.{Perform, Undo, Redo}
use Rattle.history_model.specs.History.{stepped}
use Rattle.session_model.specs.Scripts.{rules}
use Rattle.commands.specs.Actions.{map_action}
use Rattle.commands.specs.Views.{action_of}
use Rattle.matched_histories.specs.MatchedHistories.{IsMatchedHistory}
use Rattle.wider_slots.proofs.StepLemmas.{wider-same}
use Rattle.session.specs.History.{history_of}
use Rattle.session.proofs.MatchedSteps.{matched-after}
use Rattle.session.proofs.session.Session.step.Goals as goal

pub returns-in-Perform-clause-matched : goal.returns-in-Perform-clause-matched
returns-in-Perform-clause-matched g c =
    let s = c.args.image.now in
    let before = history_of s c.args.self.now in
    let after = history_of c.perform.new.image c.perform.new.self in
    let line = Perform (map_action (name_at s.names) (action_of c.in-Perform.action)) in
    rw c.in-Perform.is (λ first spelled all.
    matched-after first (stepped rules before line) before after c.perform.result (λ done is. c.law_matched_histories.ensures.plain first before after line is spelled done) c.perform.ensures.done c.perform.ensures.same all)

pub returns-in_ok-renew-in-Undo-clause-matched : goal.returns-in_ok-renew-in-Undo-clause-matched
returns-in_ok-renew-in-Undo-clause-matched g c = λ first spelled all.
    let before = history_of c.args.image.now c.renew.new.self in
    let after = history_of c.undo.new.image c.undo.new.self in
    matched-after first (stepped rules before Undo) before after c.undo.result (λ done is. c.law_matched_histories.ensures.plain first before after Undo is tt done) c.undo.ensures.done c.undo.ensures.same
    (subst (IsMatchedHistory first) (sym c.renew.ensures.same) all)

pub returns-in_ok-renew-in-Redo-clause-matched : goal.returns-in_ok-renew-in-Redo-clause-matched
returns-in_ok-renew-in-Redo-clause-matched g c = λ first spelled all.
    let before = history_of c.args.image.now c.renew-in-Redo.new.self in
    let after = history_of c.redo.new.image c.redo.new.self in
    matched-after first (stepped rules before Redo) before after c.redo.result (λ done is. c.law_matched_histories.ensures.plain first before after Redo is tt done) c.redo.ensures.done c.redo.ensures.same
    (subst (IsMatchedHistory first) (sym c.renew-in-Redo.ensures.same) all)

pub returns-in_err-renew-in-Undo-clause-room : goal.returns-in_err-renew-in-Undo-clause-room
returns-in_err-renew-in-Undo-clause-room g c =
    let p = err_from_is_err_and c.from_residual.result c.from_residual.ensures.1 in
    rw p.1 (wider-same c.args.image.now c.requires.log.closed)

pub returns-in_err-renew-in-Redo-clause-room : goal.returns-in_err-renew-in-Redo-clause-room
returns-in_err-renew-in-Redo-clause-room g c =
    let p = err_from_is_err_and c.from_residual-in_err-renew-in-Redo.result c.from_residual-in_err-renew-in-Redo.ensures.1 in
    rw p.1 (wider-same c.args.image.now c.requires.log.closed)
