use Rattle.std.proofs.Common.{sym, subst}
use Rattle.std.proofs.lemmas.Result.{err_from_is_err_and}
use Rattle.history_model.specs.Rules.{Perform}
use Rattle.history_model.specs.History.{stepped}
use Rattle.ruled_model.specs.RuledScripts.{History, Applies, ruled}
use Rattle.certificates.specs.Asked.{command_in}
use Rattle.matched_histories.specs.MatchedHistories.{IsMatchedHistory}
use Rattle.wider_slots.proofs.StepLemmas.{wider-same}
use Rattle.session.specs.History.{history_of}
use Rattle.session.proofs.MatchedSteps.{matched-after}
use Rattle.session.proofs.RuledSteps.{IsTold, told-unmet, told-underived}
use Rattle.session.proofs.session.Session.apply_rule.Goals as goal

pub returns-in_err-renew-clause-room : goal.returns-in_err-renew-clause-room
returns-in_err-renew-clause-room g c =
    let p = err_from_is_err_and c.from_residual.result c.from_residual.ensures.1 in
    rw p.1 (wider-same c.args.image.now c.requires.log.closed)

pub returns-clause-refused : goal.returns-clause-refused
returns-clause-refused g c =
    let s = c.args.image.now in
    let r = c.args.request.now in
    let names = c.perform_rule.new.image.names in
    told-unmet r names (stepped ruled (history_of s c.args.self.now) (Perform (Applies (command_in s.names r)))) c.perform_rule.result
    (subst (λ (h : History). IsTold r names (stepped ruled h (Perform (Applies (command_in s.names r)))) c.perform_rule.result) c.renew.ensures.same c.perform_rule.ensures.refused)

pub returns-clause-underived : goal.returns-clause-underived
returns-clause-underived g c =
    let s = c.args.image.now in
    let r = c.args.request.now in
    let names = c.perform_rule.new.image.names in
    told-underived r names (stepped ruled (history_of s c.args.self.now) (Perform (Applies (command_in s.names r)))) c.perform_rule.result
    (subst (λ (h : History). IsTold r names (stepped ruled h (Perform (Applies (command_in s.names r)))) c.perform_rule.result) c.renew.ensures.same c.perform_rule.ensures.refused)

pub returns-clause-matched : goal.returns-clause-matched
returns-clause-matched g c = λ first spelled all.
    let s = c.args.image.now in
    let before = history_of s c.renew.new.self in
    let after = history_of c.perform_rule.new.image c.perform_rule.new.self in
    let line = Perform (Applies (command_in s.names c.args.request.now)) in
    matched-after first (stepped ruled before line) before after c.perform_rule.result (λ done is. c.law_matched_histories.ensures.step first before after line is spelled done) c.perform_rule.ensures.done c.perform_rule.ensures.same
    (subst (IsMatchedHistory first) (sym c.renew.ensures.same) all)
